-- `cells::place` meets its contract.
use mathlib.Core.Path.{sym}
use Rattle.code.specs.Place.{place_is}
use Rattle.cells.proofs.place.Goals as goal

pub returns : goal.returns
returns c =
    sym (place_is c.args.p c.args.i c.args.j)
