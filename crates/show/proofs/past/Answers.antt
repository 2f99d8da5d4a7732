-- `show::past` meets its contract.
use Rattle.std.proofs.Common.{arith}
use Rattle.reel.specs.Told.{tile_taken, tile_within}
use Rattle.reel.specs.Walks.{moves_on}
use Rattle.window.specs.Going.{within}
use Rattle.show.specs.Going.{past_told}
use Rattle.show.proofs.past.Goals as goal

pub restore-state-requires : goal.restore-state-requires
restore-state-requires c =
    within c.requires.next_told

pub overflow_add-offset : goal.overflow_add-offset
overflow_add-offset c =
    record { fits = omega (arith, moves_on c.requires.next_told, c.requires.offset_bound, c.well_formed.1.0.0) }

pub behind-requires : goal.behind-requires
behind-requires c =
    record {
      size = (tile_taken c.requires.next_told).0;
      bound = omega (arith, tile_within c.requires.next_told, c.well_formed.1.0.0);
    }

pub returns-clause-past : goal.returns-clause-past
returns-clause-past c =
    let put = rw c.requires.used at c.tile.ensures.puts in
    rw c.used.ensures
    (past_told _ _ _ c.restore-state.ensures put (omega (arith, c.tile.ensures.within, c.requires.used)) c.behind.ensures c.with.ensures)
