-- `picture::signs::stop` meets its contract.
use Rattle.std.proofs.Common.{arith}
use Rattle.page.specs.Then.{◌and◌, at_most}
use Rattle.picture.specs.Picture.{stop_signed}
use Rattle.picture.proofs.signs.stop.Goals as goal

pub returns : goal.returns
unfolding stop_signed
returns c =
    at_most 42 (omega arith) (c.row_begin.ensures and (rw c.number.ensures at c.put_form.ensures))
