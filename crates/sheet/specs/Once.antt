-- The contract allows one answer and one tile: two outcomes that are allowed for the same input are the same. Assumes nothing.
use Rattle.std.specs.Prelude.{◌≡◌, refl, List, ℕ, ◌*◌, ◌≤◌, Result, Ok, Err}
use Rattle.std.proofs.Common.{sym, ap, ◌∙◌, le_antisymm}
use native.Mathlib.Omega.{arith, by_contra}
use Rattle.code.specs.Slope.{Slope}
use Rattle.code.specs.Tile.{xored}
use Rattle.code.specs.Writing.{written_once}
use Rattle.code.specs.declared.Kind.{Kind}
use Rattle.size.specs.Answer as size
use Rattle.size.specs.Refusal.{number_of}
use Rattle.size.specs.Once.{number_once}
use Rattle.promise.specs.Admit.{admitted_well, admitted_no, admitted_once}
use Rattle.promise.specs.Calls.{TileLength}
use Rattle.promise.specs.Admit.{slope_of_lem}
use Rattle.promise.specs.Once.{Single}
use Rattle.sheet.specs.Sheet.{Marked, Placed, SoundBelow}
use Rattle.sheet.specs.Answer.{Said, refused, corrected_said}
use Rattle.sheet.specs.Calls.{Judged, cut, no_mark, no_place, sound, Corrects, CorrectTold}
use Rattle.sheet.specs.declared.Fault.{Fault}

-- ---- of one sheet one thing is said

-- a faulty record is not before one before which none is faulty ..
not_before : (p : ℕ) (sheet : List ℕ) (k m : ℕ) → SoundBelow p sheet m → (Marked sheet k × Placed p sheet k → ⊥) → m ≤ k
not_before p sheet k m before fault = by_contra m k (λ h. fault (before k h))

-- .. so there is one first
first_once : (p : ℕ) (sheet : List ℕ) (k m : ℕ) → SoundBelow p sheet k → (Marked sheet k × Placed p sheet k → ⊥) → SoundBelow p sheet m
    → (Marked sheet m × Placed p sheet m → ⊥) → k ≡ m
first_once p sheet k m a f b g = le_antisymm (not_before p sheet m k a g) (not_before p sheet k m b f)

pub judged_told_once : (p : ℕ) (sheet : List ℕ) (a b : Said) → Judged p sheet a → Judged p sheet b → a ≡ b
judged_told_once p sheet a b (cut f) (cut g) = refl
judged_told_once p sheet a b (cut f) (no_mark w h s n) = absurd (f w)
judged_told_once p sheet a b (cut f) (no_place w h s m n) = absurd (f w)
judged_told_once p sheet a b (cut f) (sound w s) = absurd (f w)
judged_told_once p sheet a b (no_mark w h s n) (cut f) = absurd (f w)
judged_told_once p sheet a b (no_mark {k} w h s n) (no_mark {k = m} w' h' s' n') =
    ap (λ (i : ℕ). refused 6 (8 * i)) (first_once p sheet k m s (λ t. n t.0) s' (λ t. n' t.0))
judged_told_once p sheet a b (no_mark {k} w h s n) (no_place {k = m} w' h' s' m' n') =
    let e = first_once p sheet k m s (λ t. n t.0) s' (λ t. n' t.1) in absurd (n (rw (← e) at m'))
judged_told_once p sheet a b (no_mark {k} w h s n) (sound w' s') = absurd (n (s' k h).0)
judged_told_once p sheet a b (no_place w h s m n) (cut f) = absurd (f w)
judged_told_once p sheet a b (no_place {k = m} w' h' s' m' n') (no_mark {k} w h s n) =
    let e = first_once p sheet k m s (λ t. n t.0) s' (λ t. n' t.1) in absurd (n (rw (← e) at m'))
judged_told_once p sheet a b (no_place {k} w h s m n) (no_place {k = i} w' h' s' m' n') =
    ap (λ (i : ℕ). refused 4 (8 * i)) (first_once p sheet k i s (λ t. n t.1) s' (λ t. n' t.1))
judged_told_once p sheet a b (no_place {k} w h s m n) (sound w' s') = absurd (n (s' k h).1)
judged_told_once p sheet a b (sound w s) (cut f) = absurd (f w)
judged_told_once p sheet a b (sound w' s') (no_mark {k} w h s n) = absurd (n (s' k h).0)
judged_told_once p sheet a b (sound w' s') (no_place {k} w h s m n) = absurd (n (s' k h).1)
judged_told_once p sheet a b (sound w s) (sound w' s') = refl

-- ---- of one tile and one sheet

-- one tile is left
corrects_once : (p l : ℕ) (sheet x y z : List ℕ) → Slope p l → Corrects p l sheet x y → Corrects p l sheet x z → y ≡ z
corrects_once p l sheet x y z S c d =
    c.becomes ∙ ap (xored x) (written_once p l _ c.change d.change S c.written d.written) ∙ sym d.becomes

-- and one thing is said
pub correct_told_once : (kind : Kind) (p l : ℕ) (tile sheet : List ℕ) → Single (CorrectTold kind p l tile sheet)
correct_told_once kind p l tile sheet a b x y (CorrectTold.refuses {n} h) (CorrectTold.refuses {n = m} k) =
    let e : size.refused n ≡ size.refused m = admitted_once kind p l (TileLength p tile) (size.refused n) (size.refused m) h k in (cc, refl)
correct_told_once kind p l tile sheet a b x y (CorrectTold.refuses h) (CorrectTold.faulty k j) = absurd (admitted_no h (admitted_well k))
correct_told_once kind p l tile sheet a b x y (CorrectTold.refuses h) (CorrectTold.corrects k j c) = absurd (admitted_no h (admitted_well k))
correct_told_once kind p l tile sheet a b x y (CorrectTold.faulty h j) (CorrectTold.refuses k) = absurd (admitted_no k (admitted_well h))
correct_told_once kind p l tile sheet a b x y (CorrectTold.faulty h i) (CorrectTold.faulty k j) = (judged_told_once p sheet a b i j, refl)
correct_told_once kind p l tile sheet a b x y (CorrectTold.faulty h i) (CorrectTold.corrects k j c) =
    let e = judged_told_once p sheet a b i j in absurd (let z : ◌≡◌ {A = ℕ} 0 1 = cc in omega arith)
correct_told_once kind p l tile sheet a b x y (CorrectTold.corrects h j c) (CorrectTold.refuses k) = absurd (admitted_no k (admitted_well h))
correct_told_once kind p l tile sheet a b x y (CorrectTold.corrects h i c) (CorrectTold.faulty k j) =
    let e = judged_told_once p sheet a b i j in absurd (let z : ◌≡◌ {A = ℕ} 0 1 = cc in omega arith)
correct_told_once kind p l tile sheet a b x y (CorrectTold.corrects h i c) (CorrectTold.corrects k j d) =
    (judged_told_once p sheet a b i j, corrects_once p l sheet tile x y (slope_of_lem h) c d)

-- and one answer says it
corrected_said_once : (a b : Result ℕ Fault) → corrected_said a ≡ corrected_said b → a ≡ b
corrected_said_once (Ok n) (Ok m) e = cc
corrected_said_once (Ok n) (Err g) e = cc
corrected_said_once (Err f) (Ok m) e = cc
corrected_said_once (Err f) (Err g) e =
    let n : number_of f.refusal ≡ number_of g.refusal = cc in
    let at : f.at ≡ g.at = cc in
    let refusal = number_once f.refusal g.refusal n in λ i. Err (record { refusal = refusal i; at = at i })

-- a correction has one right answer, and leaves one tile
pub correct_once : (kind : Kind) (p l : ℕ) (tile sheet : List ℕ) (a b : Result ℕ Fault) (x y : List ℕ)
    → CorrectTold kind p l tile sheet (corrected_said a) x → CorrectTold kind p l tile sheet (corrected_said b) y → (a ≡ b) × (x ≡ y)
correct_once kind p l tile sheet a b x y t u =
    let e = correct_told_once kind p l tile sheet (corrected_said a) (corrected_said b) x y t u in (corrected_said_once a b e.0, e.1)
