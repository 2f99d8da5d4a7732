-- WHAT A READER MUST BELIEVE: what the size and slope calls promise (SPEC 2.4 and 9.2). Assumes nothing.
use Rattle.std.specs.Prelude.{ℕ, Result, Ok, Err}
use Rattle.residue.specs.Size.{Size}
use Rattle.code.specs.Kind.{Takes}
use Rattle.code.specs.declared.Kind.{Kind}
use Rattle.house.specs.House.{HouseSlope}
use Rattle.size.specs.Refusal.{number_of}
use Rattle.size.specs.declared.Refusal.{Refusal}

-- SPEC 2.4: what may be answered: a slope, that all is well, or the number of a refusal
pub data Said : Type 0 where
  slope : ℕ → Said
  well : Said
  refused : ℕ → Said

-- SPEC 2.4 and 9.1: what each answer of the two calls stands for
abbrev pub house_said : Result ℕ Refusal → Said
house_said (Ok l) = slope l
house_said (Err r) = refused (number_of r)

abbrev pub judgement_said : Result Unit Refusal → Said
judgement_said (Ok done) = well
judgement_said (Err r) = refused (number_of r)

-- SPEC 2.4: a size is given its house slope, and any other number is refused with 1
pub data HouseTold (p : ℕ) : Said → Type 0 where
  given : {l : ℕ} → Size p → HouseSlope p l → HouseTold p (slope l)
  no_size : (Size p → ⊥) → HouseTold p (refused 1)

-- SPEC 2.4 and 9.2: refused 1 where p is no size, otherwise refused 2 where the kind does not take l there, otherwise all is well
pub data Judged (k : Kind) (p l : ℕ) : Said → Type 0 where
  taken : Size p → Takes k p l → Judged k p l well
  no_size : (Size p → ⊥) → Judged k p l (refused 1)
  no_slope : Size p → (Takes k p l → ⊥) → Judged k p l (refused 2)
