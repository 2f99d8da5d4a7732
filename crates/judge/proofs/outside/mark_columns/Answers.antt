-- `judge::outside::mark_columns` meets its contract. The loop's invariant: the rows before row i are compared.
use native.Mathlib.Omega.{arith}
use Rattle.code.specs.Says.{says_true, says_false}
use Rattle.judge.specs.Outside.{rows_none, rows_passed, rows_more}
use Rattle.judge.proofs.outside.mark_columns.Goals as goal
use Rattle.judge.proofs.outside.mark_columns.Goals.{then-not-is_one_of, else-not-is_one_of}

pub loop-i-init : goal.loop-i-init
loop-i-init c =
    rows_none

pub loop-i-preserved : goal.loop-i-preserved
loop-i-preserved c =
    elim c.if-not-is_one_of.branch [
      | then-not-is_one_of w ↦ rw w.marks-is (rows_more (omega arith) (says_false c.is_one_of.ensures w.if-not-is_one_of.true) w.mark_row.ensures c.loop-i.invariant)
      | else-not-is_one_of w ↦ rw w.marks-is (rows_passed (says_true c.is_one_of.ensures w.if-not-is_one_of.false) c.loop-i.invariant)
    ]
