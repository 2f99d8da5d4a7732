-- The contracts settle the answers: two answers that are right for the same input are the same. Assumes nothing.
use Rattle.std.specs.Prelude.{◌≡◌, refl, [], ◌∷◌, ℕ, ◌-◌, get_or, Result, Ok, Err}
use Rattle.std.proofs.Common.{ap, sym, ◌∙◌, le_antisymm}
use native.Mathlib.Omega.{by_contra}
use Rattle.code.specs.declared.Kind.{Kind}
use Rattle.size.specs.Refusal.{number_of}
use Rattle.house.specs.House.{HouseSlope}
use Rattle.size.specs.Answer.{Said, slope, house_said, judgement_said, HouseTold, given, no_size, Judged, taken, no_slope}
use Rattle.size.specs.declared.Refusal.{Refusal}
use Rattle.size.specs.declared.Refusal.TheVariants.{BadSize, BadSlope, BadLength, BadPlace, Damaged, BadMark, CutShort, Doubtful, TooSmall, NotGood, DiffersElsewhere}

-- the refusal that has the number n
abbrev pub refusal_of : ℕ → Refusal
refusal_of n = get_or (BadSize ∷ BadSlope ∷ BadLength ∷ BadPlace ∷ Damaged ∷ BadMark ∷ CutShort ∷ Doubtful ∷ TooSmall ∷ NotGood ∷ DiffersElsewhere ∷ []) (n - 1) BadSize

-- the refusal that has the number of r is r
pub back : (r : Refusal) → refusal_of (number_of r) ≡ r
back BadSize = refl
back BadSlope = refl
back BadLength = refl
back BadPlace = refl
back Damaged = refl
back BadMark = refl
back CutShort = refl
back Doubtful = refl
back TooSmall = refl
back NotGood = refl
back DiffersElsewhere = refl

-- no two refusals have the same number
pub number_once : (a b : Refusal) → number_of a ≡ number_of b → a ≡ b
number_once a b e = sym (back a) ∙ ap refusal_of e ∙ back b

-- a size has one house slope
slope_once : {p l m : ℕ} → HouseSlope p l → HouseSlope p m → l ≡ m
slope_once {p} {l} {m} a b = le_antisymm (by_contra l m (λ h. a.least m h b.allowed)) (by_contra m l (λ h. b.least l h a.allowed))

-- of one p one thing is said, and of one kind, p and l ..
pub house_told_once : (p : ℕ) (a b : Said) → HouseTold p a → HouseTold p b → a ≡ b
house_told_once p a b (given s h) (given t k) = ap slope (slope_once h k)
house_told_once p a b (given s h) (no_size f) = absurd (f s)
house_told_once p a b (no_size f) (given s h) = absurd (f s)
house_told_once p a b (no_size f) (no_size g) = refl

pub judged_told_once : (k : Kind) (p l : ℕ) (a b : Said) → Judged k p l a → Judged k p l b → a ≡ b
judged_told_once k p l a b (taken s t) (taken s' t') = refl
judged_told_once k p l a b (taken s t) (no_size f) = absurd (f s)
judged_told_once k p l a b (taken s t) (no_slope s' f) = absurd (f t)
judged_told_once k p l a b (no_size f) (taken s t) = absurd (f s)
judged_told_once k p l a b (no_size f) (no_size g) = refl
judged_told_once k p l a b (no_size f) (no_slope s g) = absurd (f s)
judged_told_once k p l a b (no_slope s f) (taken s' t) = absurd (f t)
judged_told_once k p l a b (no_slope s f) (no_size g) = absurd (g s)
judged_told_once k p l a b (no_slope s f) (no_slope s' g) = refl

-- .. and one answer says it
house_said_once : (a b : Result ℕ Refusal) → house_said a ≡ house_said b → a ≡ b
house_said_once (Ok l) (Ok m) e = cc
house_said_once (Ok l) (Err s) e = cc
house_said_once (Err r) (Ok m) e = cc
house_said_once (Err r) (Err s) e = let n : number_of r ≡ number_of s = cc in ap Err (number_once r s n)

pub judgement_said_once : (a b : Result Unit Refusal) → judgement_said a ≡ judgement_said b → a ≡ b
judgement_said_once (Ok d) (Ok d') e = refl
judgement_said_once (Ok d) (Err s) e = cc
judgement_said_once (Err r) (Ok d) e = cc
judgement_said_once (Err r) (Err s) e = let n : number_of r ≡ number_of s = cc in ap Err (number_once r s n)

-- a house slope call has one right answer
pub house_once : (p : ℕ) (a b : Result ℕ Refusal) → HouseTold p (house_said a) → HouseTold p (house_said b) → a ≡ b
house_once p a b s t = house_said_once a b (house_told_once p (house_said a) (house_said b) s t)

-- a judgement of a kind, a size and a slope has one right answer
pub judged_once : (k : Kind) (p l : ℕ) (a b : Result Unit Refusal) → Judged k p l (judgement_said a) → Judged k p l (judgement_said b) → a ≡ b
judged_once k p l a b s t = judgement_said_once a b (judged_told_once k p l (judgement_said a) (judgement_said b) s t)
