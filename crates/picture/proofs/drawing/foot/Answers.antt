-- `picture::drawing::foot` meets its contract.
use Rattle.std.proofs.Common.{arith}
use Rattle.page.specs.Then.{at_most}
use Rattle.picture.specs.Picture.{foot}
use Rattle.picture.proofs.drawing.foot.Goals as goal

pub returns : goal.returns
unfolding foot
returns c =
    at_most 2000 (omega arith) (rw c.rows.ensures at c.put_form.ensures)
