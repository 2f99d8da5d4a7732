-- `mender::name` meets its contract: what is changed in a line is nothing, one byte, or two and more.
use Rattle.std.proofs.Common.{sym, ◌∙◌}
use Rattle.mender.specs.Called.{called_none, called_line, called_cell}
use Rattle.mender.proofs.name.Goals as goal

pub returns-in_default : goal.returns-in_default
returns-in_default c = called_none _ _ _ c.in_default.ensures

pub returns-in-Row : goal.returns-in-Row
returns-in-Row c =
    rw c.in-Row.is (called_line _ _ _ _ c.in-Some.ensures _ c.next_changed-2.ensures (sym c.is_some.ensures ∙ c.if-is_some.true))

pub returns-in-Column : goal.returns-in-Column
returns-in-Column c =
    rw c.in-Column.is (called_line _ _ _ _ c.in-Some.ensures _ c.next_changed-2.ensures (sym c.is_some.ensures ∙ c.if-is_some.true))

pub returns-in-Row-line : goal.returns-in-Row-line
returns-in-Row-line c =
    rw c.in-Row-line.is (called_cell _ _ _ _ c.in-Some.ensures _ c.next_changed-2.ensures (sym c.is_some.ensures ∙ c.if-is_some.false))

pub returns-in-Column-line : goal.returns-in-Column-line
returns-in-Column-line c =
    rw c.in-Column-line.is (called_cell _ _ _ _ c.in-Some.ensures _ c.next_changed-2.ensures (sym c.is_some.ensures ∙ c.if-is_some.false))
