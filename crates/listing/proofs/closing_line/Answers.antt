-- `listing::closing_line` meets its contract.
use Rattle.std.proofs.Common.{arith}
use Rattle.reel.specs.Told.{refusal_stays}
use Rattle.listing.specs.Reached.{reached_ends, reached_stops}
use Rattle.listing.proofs.Other.{is_end}
use Rattle.listing.proofs.closing_line.Goals as goal

pub returns-in_default : goal.returns-in_default
returns-in_default c =
    let told = rw (is_end c.args.found c.in_default.not-Refused c.requires.next_told.1) at c.requires.next_told.0 in
    rw c.end_line.ensures (reached_ends c.requires.reached told)

pub overflow_add-reel : goal.overflow_add-reel
overflow_add-reel c =
    omega (arith, refusal_stays (rw c.in-Refused.is at c.requires.next_told.0))

pub returns : goal.returns
returns c =
    rw c.stopped_line.ensures (reached_stops c.requires.reached (rw c.in-Refused.is at c.requires.next_told.0))
