-- `window::look` meets its contract.
use Rattle.window.specs.Window.{a_tile, the_end, more_behind}
use Rattle.window.proofs.look.Goals as goal

pub returns-in-Tile : goal.returns-in-Tile
returns-in-Tile c =
    a_tile (rw c.in-Tile.is at c.next.ensures)

pub returns-then-last : goal.returns-then-last
returns-then-last c =
    rw c.if-last.true (the_end (rw c.in-End.is at c.next.ensures))

pub returns-else-last : goal.returns-else-last
returns-else-last c =
    rw c.if-last.false (more_behind (rw c.in-End.is at c.next.ensures))
