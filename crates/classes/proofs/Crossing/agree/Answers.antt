-- `classes::Crossing::agree` meets its contract.
use mathlib.Core.Path.{◌≡◌, ap, ◌∙◌}
use native.Mathlib.Omega.{arith}
use borrow.Author.Tests.{tests}
use Rattle.std.proofs.Common.{rules}
use Rattle.std.proofs.lemmas.Iterator.{first_from_Range}
use Rattle.residue.specs.Remainder.{same}
use Rattle.code.specs.Classes.{class_sum}
use Rattle.code.specs.Held.{held}
use Rattle.classes.specs.Step.{agree_told}
use Rattle.classes.proofs.Crossing.agree.Goals as goal

pub returns : goal.returns
returns c =
    let s = c.args.self.now in
    let sum = class_sum s.lattice.p s.lattice.l c.args.n (held s.a.now) (held s.b.now) s.row s.column in
    agree_told _ _ _ _ _ _ _ c.is_none.result c.find.result
    (ap (held s.a.now) (same s.lattice.p (omega arith)) ∙ c.if-self-s.false) c.is_none.ensures
    (first_from_Range _ _ _ _ (λ o. sum o ≡ 0 → ⊥) (λ o. sum o ≡ 0) c.find.ensures.ran (λ x q k. search (rules, tests)) (λ x q k. search (rules, tests)))
