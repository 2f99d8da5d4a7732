-- `walk::sums::add_row` meets its contract: from line 0 on the row is one run, and else two.
use native.Mathlib.Omega.{arith}
use Rattle.walk.specs.Walk.{one_run, two_runs}
use Rattle.walk.proofs.sums.add_row.Goals as goal

pub returns-then-first-eq0 : goal.returns-then-first-eq0
returns-then-first-eq0 c =
    rw c.if-first-eq0.true (one_run (omega arith) c.add_bytes.ensures)

pub returns-else-first-eq0 : goal.returns-else-first-eq0
returns-else-first-eq0 c =
    let parts = c.split_at.ensures in
    two_runs (omega arith) (omega arith) (omega arith) (rw parts.front at c.add_bytes-else-first-eq0.ensures)
    (rw parts.back at c.add_bytes-else-first-eq0-2.ensures)
