-- `flag::line_number` meets its contract.
use mathlib.Core.Path.{refl}
use native.Mathlib.Omega.{arith}
use Rattle.flag.proofs.line_number.Goals as goal

pub overflow_add-result : goal.overflow_add-result
overflow_add-result c =
    omega (arith, rw c.in-Column.is at c.requires)

pub returns-in-Column : goal.returns-in-Column
returns-in-Column c =
    rw c.in-Column.is refl
