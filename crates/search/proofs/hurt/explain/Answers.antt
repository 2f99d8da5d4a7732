-- `search::hurt::explain` meets its contract.
use native.Mathlib.Omega.{arith}
use Rattle.code.specs.Tile.{cell}
use Rattle.code.specs.Held.{held}
use Rattle.search.specs.Hurt.{explained_doubtful, explained_column, explained_row, explained_more}
use Rattle.search.proofs.hurt.explain.Goals as goal

pub returns-then-also_a_row : goal.returns-then-also_a_row
returns-then-also_a_row c =
    let a = c.args in
    let scan = a.scan.now in
    explained_doubtful a.kind scan.p a.m scan.begin (cell scan.p scan.tile.now) (held scan.sums.now) (omega arith) (omega arith) (omega arith) c.requires.sums
    c.requires.begin_nonzero _ c.in-Some.c c.in-Some.ensures.0 c.in-Some.ensures.1 c.shifted.ensures
    (rw c.if-also_a_row.true at c.also_a_row.ensures)

pub returns-in-Some : goal.returns-in-Some
returns-in-Some c =
    let a = c.args in
    let scan = a.scan.now in
    explained_column a.kind scan.p a.m scan.begin (cell scan.p scan.tile.now) (held scan.sums.now) (omega arith) (omega arith) (omega arith) c.requires.sums
    c.requires.begin_nonzero _ c.in-Some.c c.in-Some.ensures.0 c.in-Some.ensures.1 c.shifted.ensures
    (rw c.if-also_a_row.false at c.also_a_row.ensures)

pub returns-in_default-explaining : goal.returns-in_default-explaining
returns-in_default-explaining c =
    let a = c.args in
    let scan = a.scan.now in
    explained_more a.kind scan.p a.m scan.begin (cell scan.p scan.tile.now) (held scan.sums.now) (omega arith) (omega arith) (omega arith) c.requires.sums
    c.requires.begin_nonzero c.in_default.ensures _ c.in_default-explaining.ensures

pub returns : goal.returns
returns c =
    let a = c.args in
    let scan = a.scan.now in
    let row = c.in-Some-explaining in
    explained_row a.kind scan.p a.m scan.begin (cell scan.p scan.tile.now) (held scan.sums.now) (omega arith) (omega arith) (omega arith) c.requires.sums
    c.requires.begin_nonzero c.in_default.ensures _ row.r row.ensures.0 row.ensures.1 c.shifted-2.ensures
