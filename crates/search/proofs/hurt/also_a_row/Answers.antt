-- `search::hurt::also_a_row` meets its contract.
use Rattle.search.specs.Hurt.{is_new, said_none, said_once, said_twice}
use Rattle.search.proofs.hurt.also_a_row.Goals as goal

pub returns-in_default : goal.returns-in_default
returns-in_default c =
    is_new c.in_default.is

pub returns-in_default-next_changed : goal.returns-in_default-next_changed
returns-in_default-next_changed c =
    said_none c.in_default-next_changed.ensures

pub returns-then-is_none : goal.returns-then-is_none
returns-then-is_none c =
    said_once c.next_changed-2.result c.in-Some.ensures c.next_changed-2.ensures c.if-is_none.ensures

pub returns : goal.returns
returns c =
    rw c.is_some.ensures (said_twice c.next_changed-2.result c.explaining.result c.in-Some.ensures c.next_changed-2.ensures c.if-is_none.ensures c.explaining.ensures)
