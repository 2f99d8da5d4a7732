-- `listing::next_line` meets its contract.
use Rattle.std.proofs.Common.{arith}
use Rattle.listing.specs.Listing.{lists}
use Rattle.listing.specs.Reached.{bytes_fit, bytes_are}
use Rattle.listing.proofs.next_line.Goals as goal

pub state-said-requires : goal.state-said-requires
state-said-requires c =
    omega (arith, bytes_fit c.requires.next_told c.bytes.ensures, c.requires.in_bounds)

pub returns : goal.returns
returns c =
    rw c.tile_line.ensures (lists c.requires.next_told (rw (bytes_are c.requires.next_told c.bytes.ensures) at c.state-said.ensures))
