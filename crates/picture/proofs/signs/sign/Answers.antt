-- `picture::signs::sign` meets its contract.
use Rattle.std.proofs.Common.{arith}
use Rattle.page.specs.Then.{◌and◌, at_most}
use Rattle.picture.specs.Picture.{signed}
use Rattle.picture.proofs.signs.sign.Goals as goal

pub returns : goal.returns
unfolding signed
returns c =
    at_most 23 (omega arith) (c.row_begin.ensures and (rw c.sign_of.ensures at c.put.ensures) and c.row_end.ensures)
