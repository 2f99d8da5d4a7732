-- `picture::drawing::square` meets its contract.
use Rattle.std.proofs.Common.{arith}
use Rattle.page.specs.Then.{◌and◌, at_most}
use Rattle.picture.specs.Picture.{square}
use Rattle.picture.proofs.drawing.square.Goals as goal

pub returns : goal.returns
unfolding square
returns c =
    at_most 389 (omega arith) (c.begin.ensures and c.shape.ensures and c.put.ensures)
