-- `reel::judged` meets its contract: the tests stand in the order of the refusals.
use Rattle.std.proofs.Common.{◌+◌, ap, arith}
use Prim.Native.Nat.{ℕ}
use Rattle.code.specs.Says.{says_true, says_false}
use Rattle.size.specs.Told.{judged_well}
use Rattle.size.specs.Passed.{passed_on}
use Rattle.reel.specs.Calls.{refuses, no_line, tile_cut}
use Rattle.reel.specs.Told.{stands_told}
use Rattle.reel.proofs.judged.Goals as goal

pub returns-in_err-judge : goal.returns-in_err-judge
returns-in_err-judge c =
    rw (passed_on c.from_residual.ensures.1) (refuses (rw c.kind-kind.ensures at c.in_err-judge.ensures))

pub returns-then-not-carries : goal.returns-then-not-carries
returns-then-not-carries c =
    no_line (rw c.kind-kind.ensures at c.in_ok-judge.ensures) (says_false c.carries.ensures c.if-not-carries.true)

pub tile_length-requires : goal.tile_length-requires
tile_length-requires c =
    (judged_well c.in_ok-judge.ensures).0

pub returns-then-reel-bytes : goal.returns-then-reel-bytes
returns-then-reel-bytes c =
    tile_cut (rw c.kind-kind.ensures at c.in_ok-judge.ensures) (says_true c.carries.ensures c.if-not-carries.false)
    (λ w. omega (arith, w, c.length.ensures, c.tile_length.ensures))

pub returns : goal.returns
returns c =
    stands_told c.args.reel.now c.args.at c.args.header c.kind-kind.result (c.args.at + c.length.result)
    c.kind-kind.ensures (ap (λ (n : ℕ). c.args.at + n) c.length.ensures)
    (rw c.kind-kind.ensures at c.in_ok-judge.ensures)
    (says_true c.carries.ensures c.if-not-carries.false)
    (omega (arith, c.length.ensures, c.tile_length.ensures))
