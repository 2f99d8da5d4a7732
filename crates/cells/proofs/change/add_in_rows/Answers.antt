-- `cells::change::add_in_rows` meets its contract: the bytes of a row or of a column are a run.
use mathlib.Core.Path.{◌≡◌}
use Prim.Native.Nat.{ℕ, ◌<◌}
use native.Mathlib.Omega.{arith}
use Rattle.code.specs.OneLine.{number}
use Rattle.code.specs.declared.Line.{Line}
use Rattle.code.specs.declared.Line.TheVariants.{Row, Column}
use Rattle.cells.specs.Change.{line_added, column_none}
use Rattle.cells.proofs.change.add_in_rows.Goals as goal

-- the row that the line is has its number
row_among : {a : Line} {r n : ℕ} → a ≡ Row r → number a < n → r < n
row_among e h = rw e at h

pub returns-in-Row : goal.returns-in-Row
returns-in-Row c =
    rw c.in-Row.is (line_added c.args.rows c.args.width (Row _) (row_among c.in-Row.is c.requires.3) c.add_run.ensures)

pub returns-then-c-width : goal.returns-then-c-width
returns-then-c-width c =
    rw c.in-Column.is (line_added c.args.rows c.args.width (Column _) c.if-c-width.true c.add_run-then-c-width.ensures)

pub returns-else-c-width : goal.returns-else-c-width
returns-else-c-width c =
    rw c.in-Column.is (column_none c.args.rows c.args.width _ _ _ (omega (arith, c.if-c-width.false)))
