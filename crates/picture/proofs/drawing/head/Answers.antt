-- `picture::drawing::head` meets its contract.
use Rattle.std.proofs.Common.{arith}
use Rattle.page.specs.Then.{at_most}
use Rattle.picture.specs.Picture.{head}
use Rattle.picture.proofs.drawing.head.Goals as goal

pub returns : goal.returns
unfolding head
returns c =
    at_most 500 (omega arith) (rw c.rows.ensures at c.put_form.ensures)
