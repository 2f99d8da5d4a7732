-- `show::status::of_fill` meets its contract.
use Rattle.std.specs.Prelude.{refl}
use Rattle.show.specs.Status.{no_line, no_filling}
use Rattle.show.proofs.Fill.{only_place}
use Rattle.show.proofs.status.of_fill.Goals as goal

pub returns-in-BadPlace : goal.returns-in-BadPlace
returns-in-BadPlace c =
    rw c.in-BadPlace.is (no_line refl)

pub returns-in_default : goal.returns-in_default
returns-in_default c =
    no_filling (only_place c.args.refusal c.in_default.not-BadPlace)
