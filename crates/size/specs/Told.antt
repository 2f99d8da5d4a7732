-- What is answered to what the table tells, and what an answer tells of the size and the slope that were asked about. Assumes nothing.
use Rattle.std.specs.Prelude.{ℕ, Option, Some, None}
use Rattle.std.specs.Option.{ok_or}
use Rattle.residue.specs.Size.{Size, Allowed}
use Rattle.code.specs.Kind.{Takes, allowed_taken}
use Rattle.code.specs.declared.Kind.{Kind}
use Rattle.house.specs.House as house
use Rattle.size.specs.declared.Refusal.TheVariants.{BadSize}
use Rattle.size.specs.Answer.{Said, slope, well, refused, house_said, HouseTold, given, no_size, Judged, taken, no_slope}

-- where the table tells nothing the answer is refusal 1, and where it tells a slope it is that slope
pub told_none : {p : ℕ} → house.SlopeTold p None → HouseTold p (refused 1)
told_none (house.no_size f) = no_size f

pub told_some : {p l : ℕ} → house.SlopeTold p (Some l) → HouseTold p (slope l)
told_some (house.of_size s h) = given s h

pub told : {p : ℕ} (r : Option ℕ) → house.SlopeTold p r → HouseTold p (house_said (ok_or r BadSize))
told None t = told_none t
told (Some l) t = told_some t

-- what is given a house slope is a size, and what is refused one is none
pub given_size : {p l : ℕ} → HouseTold p (slope l) → Size p
given_size (given s h) = s

pub refused_size : {p n : ℕ} → HouseTold p (refused n) → Size p → ⊥
refused_size (no_size f) s = f s

-- the house slope is taken, and what has none is refused with the same number whatever the slope
pub house_taken : {k : Kind} {p l : ℕ} → HouseTold p (slope l) → Judged k p l well
house_taken {k} {p} {l} (given s h) = taken s (allowed_taken k p l h.allowed)

pub house_refused : {k : Kind} {p l n : ℕ} → HouseTold p (refused n) → Judged k p l (refused n)
house_refused (no_size f) = no_size f

-- what is judged well is a size with a slope that the kind takes, and what is refused is not
pub judged_well : {k : Kind} {p l : ℕ} → Judged k p l well → Size p × Takes k p l
judged_well (taken s a) = (s, a)

pub judged_no : {k : Kind} {p l n : ℕ} → Judged k p l (refused n) → Size p × Takes k p l → ⊥
judged_no (no_size f) t = f t.0
judged_no (no_slope s f) t = f t.1

-- WHERE A SLOPE IS ALLOWED every kind is judged alike
pub judged_alike : {j k : Kind} {p l : ℕ} {s : Said} → Allowed p l → Judged j p l s → Judged k p l s
judged_alike {j} {k} {p} {l} a (taken s t) = taken s (allowed_taken k p l a)
judged_alike a (no_size f) = no_size f
judged_alike {j} {k} {p} {l} a (no_slope s f) = absurd (f (allowed_taken j p l a))
