-- `picture::drawing::stop` meets its contract.
use Rattle.std.proofs.Common.{arith}
use Rattle.page.specs.Then.{◌and◌, at_most}
use Rattle.picture.specs.Picture.{stop}
use Rattle.picture.proofs.drawing.stop.Goals as goal

pub returns : goal.returns
unfolding stop
returns c =
    at_most 369 (omega arith) ((rw c.stopped_line.ensures at c.begin.ensures) and (rw c.number.ensures at c.put_form.ensures))
