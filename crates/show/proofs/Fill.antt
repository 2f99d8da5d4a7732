-- The only refusal with the number 4.
use Rattle.std.specs.Prelude.{◌≡◌, refl}
use Rattle.std.proofs.Common.{arith}
use Rattle.size.specs.Refusal.{number_of}
use Rattle.size.specs.declared.Refusal.{Refusal}
use Rattle.size.specs.declared.Refusal.TheVariants as is

pub only_place : (no : Refusal) → (no ≡ is.BadPlace → ⊥) → number_of no ≡ 4 → ⊥
only_place is.BadSize other e = omega (arith, e)
only_place is.BadSlope other e = omega (arith, e)
only_place is.BadLength other e = omega (arith, e)
only_place is.BadPlace other e = other refl
only_place is.Damaged other e = omega (arith, e)
only_place is.BadMark other e = omega (arith, e)
only_place is.CutShort other e = omega (arith, e)
only_place is.Doubtful other e = omega (arith, e)
only_place is.TooSmall other e = omega (arith, e)
only_place is.NotGood other e = omega (arith, e)
only_place is.DiffersElsewhere other e = omega (arith, e)
