-- `reel::tile_at` meets its contract: the tests stand in the order of the refusals.
use Rattle.std.proofs.Common.{arith}
use Rattle.reel.specs.Calls.{start_cut, no_mark, header_cut, headed}
use Rattle.reel.proofs.tile_at.Goals as goal

pub returns-then-left-lt-SHORTEST : goal.returns-then-left-lt-SHORTEST
returns-then-left-lt-SHORTEST c =
    start_cut (omega arith) (λ w. omega (arith, w))

pub returns-in_default : goal.returns-in_default
returns-in_default c =
    no_mark (omega arith) c.in_default.ensures

pub returns-then-left-length : goal.returns-then-left-length
returns-then-left-length c =
    header_cut c.in-Some.mark (omega arith) c.in-Some.ensures (λ w. omega (arith, w, c.length.ensures))

pub returns : goal.returns
returns c =
    headed c.read.ensures c.judged.ensures
