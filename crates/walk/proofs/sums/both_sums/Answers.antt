-- `walk::sums::both_sums` meets its contract: the sums are those of the turned tile, which are the tile's own, or come in the order of its lines.
use Rattle.std.proofs.Common.{◌∙◌}
use Rattle.code.specs.Tile.{cell}
use Rattle.code.specs.Turn.{turn_first}
use Rattle.walk.specs.Walk.{turned_back}
use Rattle.walk.proofs.sums.both_sums.Goals as goal

pub returns : goal.returns
returns c =
    let a = c.args in
    let T = cell a.p a.tile.now in
    record {
      sums = λ t h. c.turned_sums-2.ensures t h ∙ turn_first a.p t T;
      sums_2 = turned_back a.p a.l _ T c.inverse-m.ensures.0 c.turned_sums.ensures c.along.ensures;
    }
