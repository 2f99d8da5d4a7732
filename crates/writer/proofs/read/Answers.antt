-- `writer::read` meets its contract.
use native.Mathlib.Omega.{arith}
use Rattle.code.specs.Says.{says_true, says_false}
use Rattle.size.specs.Passed.{passed_on}
use Rattle.promise.specs.Calls.{refuses, not_good, reads}
use Rattle.promise.specs.Admit.{admitted_well, shape_of}
use Rattle.writer.proofs.read.Goals as goal

pub is_good-requires : goal.is_good-requires
is_good-requires c =
    let a = c.in_ok-judge_text.ensures in
    shape_of a (admitted_well a).2.0

pub take-requires : goal.take-requires
take-requires c =
    let w = admitted_well c.in_ok-judge_text.ensures in
    record { low = omega (arith, w.0.low); high = w.0.high; tile = w.2.0; text = w.2.1 }

pub returns-in_err-judge_text : goal.returns-in_err-judge_text
returns-in_err-judge_text c =
    rw (passed_on c.from_residual.ensures.1) (refuses c.in_err-judge_text.ensures)

pub returns : goal.returns
returns c =
    rw c.take.ensures
    (reads c.in_ok-judge_text.ensures (says_true c.is_good.ensures c.if-not-is_good.false))

pub returns-then-not-is_good : goal.returns-then-not-is_good
returns-then-not-is_good c =
    not_good c.in_ok-judge_text.ensures (says_false c.is_good.ensures c.if-not-is_good.true)
