-- `reel::next` meets its contract: where the reel goes on, a record begins.
use Rattle.std.proofs.Common.{arith}
use Rattle.reel.specs.Calls.{ends}
use Rattle.reel.proofs.next.Goals as goal

pub returns-then-reel-at : goal.returns-then-reel-at
returns-then-reel-at c =
    ends (omega arith)
