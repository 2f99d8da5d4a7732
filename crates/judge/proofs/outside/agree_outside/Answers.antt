-- `judge::outside::agree_outside` meets its contract.
use mathlib.Core.Path.{◌≡◌}
use mathlib.Core.Logic.{◌⊎◌}
use borrow.Author.Tests.{tests}
use Rattle.std.proofs.Common.{rules}
use Rattle.std.proofs.lemmas.Iterator.{first_from_Range}
use Rattle.code.specs.Held.{held}
use Rattle.code.specs.declared.Line.TheVariants.{Column}
use Rattle.judge.specs.Outside.{OneOf, marks_told}
use Rattle.judge.proofs.outside.agree_outside.Goals as goal

pub returns : goal.returns
returns c =
    let a = c.args in
    let marks = c.mark_columns.new.marks in
    marks_told c.is_none.result c.find.result c.mark_columns.ensures c.is_none.ensures
    (first_from_Range _ _ _ _ (λ k. (held marks k ≡ 0 → ⊥) × (OneOf (Column k) a.first a.second → ⊥)) (λ k. (held marks k ≡ 0) ⊎ (OneOf (Column k) a.first a.second))
    c.find.ensures.ran (λ x q k. search (rules, tests)) (λ x q k. search (rules, tests)))
