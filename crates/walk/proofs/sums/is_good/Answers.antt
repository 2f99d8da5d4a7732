-- `walk::sums::is_good` meets its contract.
use native.Mathlib.Omega.{arith}
use Rattle.std.proofs.Common.{sym, ◌∙◌}
use Rattle.walk.specs.Good.{turned_good, turned_one, good_first, differ, alike, none_says}
use Rattle.walk.proofs.sums.is_good.Goals as goal

pub returns-then-is_some : goal.returns-then-is_some
returns-then-is_some c =
    let a = c.args in
    λ g. differ _ _ _ c.first_other.result c.first_other.ensures (sym c.is_some.ensures ∙ c.if-is_some.true)
    (good_first a.p a.l a.tile.now (omega arith) c.turned_sums.ensures g)

pub returns : goal.returns
returns c =
    let a = c.args in
    let first = c.turned_sums.ensures in
    let second = c.turned_sums-2.ensures in
    let inverse = c.inverse.ensures.0 in
    let same = alike _ _ _ c.first_other.result c.first_other.ensures (sym c.is_some.ensures ∙ c.if-is_some.false) in
    none_says _ _ _ c.first_other-2.result c.is_none.result same c.first_other-2.ensures c.is_none.ensures
    (turned_good a.p a.l _ a.tile.now inverse first second) (turned_one a.p a.l _ a.tile.now inverse first second (omega arith))
