-- `listing::print_with` is safe and ends. The loop's invariant: what is left of the reel, and how many tiles stand before it. The measure
-- is the length of what is left.
use Rattle.std.proofs.Common.{refl, arith}
use Rattle.listing.specs.Reached.{reached_first, reached_less, reached_more}
use Rattle.listing.proofs.Other.{no_tile}
use Rattle.listing.proofs.print_with.Goals as goal

pub loop-tile-init : goal.loop-tile-init
loop-tile-init c =
    (c.requires, refl, reached_first c.args.reel.now)

pub closing_line-requires : goal.closing_line-requires
closing_line-requires c =
    record {
      reached = c.loop-tile.invariant.2;
      next_told = (c.next-found.ensures, no_tile c.next-found.result c.in_default.not-Tile);
    }

pub next_line-requires : goal.next_line-requires
next_line-requires c =
    record {
      next_told = rw c.in-Tile.is at c.next-found.ensures;
      in_bounds = c.loop-tile.invariant.0;
    }

pub loop-tile-smaller : goal.loop-tile-smaller
loop-tile-smaller c =
    reached_less c.loop-tile.invariant.2 (rw c.in-Tile.is at c.next-found.ensures) c.rest-left.ensures

pub loop-tile-preserved : goal.loop-tile-preserved
loop-tile-preserved c =
    (omega arith, omega arith, reached_more c.loop-tile.invariant.2 (rw c.in-Tile.is at c.next-found.ensures) c.rest-left.ensures)
