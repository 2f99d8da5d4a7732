-- Every kind, size and slope is judged: a test that is computed says how. Assumes nothing.
use Rattle.std.specs.Prelude.{Bool, true, false, ◌≡◌, refl, ℕ, ◌+◌, ◌≤◌, T}
use Rattle.std.proofs.Common.{sym, subst}
use Rattle.std.proofs.Math.Decide.{dec_le}
use Rattle.residue.specs.Size.{Size, Allowed}
use Rattle.code.specs.Kind.{Takes}
use Rattle.code.specs.declared.Kind.{Kind}
use Rattle.code.specs.declared.Kind.TheVariants.{New, Old}
use Rattle.size.specs.Answer.{Said, well, refused, Judged, taken, no_size, no_slope}
use Rattle.house.specs.SizeTest.{size_ok, size_sound, size_complete}
use Rattle.house.specs.SlopeTest.{slope_ok, slope_sound, slope_complete}

-- a kind takes a slope at a size, or it does not
takes_told : (k : Kind) (p l : ℕ) → Size p → Dec (Takes k p l)
takes_told New p l s = go (slope_ok p l) refl
  where
    go : (b : Bool) → slope_ok p l ≡ b → Dec (Allowed p l)
    go true e = yes (slope_sound p l s.prime (subst T (sym e) tt))
    go false e = no (λ a. subst T e (slope_complete p l s.prime a))
takes_told Old p l s = go (dec_le 2 l) (dec_le (l + 2) p)
  where
    go : Dec (2 ≤ l) → Dec (l + 2 ≤ p) → Dec ((2 ≤ l) × (l + 2 ≤ p))
    go (yes a) (yes b) = yes (a, b)
    go (yes a) (no d) = no (λ t. d t.1)
    go (no d) e = no (λ t. d t.0)

-- what is said of a size
judged_size : (k : Kind) (p l : ℕ) → Size p → Dec (Takes k p l) → (said : Said) × Judged k p l said
judged_size k p l s (yes t) = (well, taken s t)
judged_size k p l s (no d) = (refused 2, no_slope s d)

judged_by : (k : Kind) (p l : ℕ) (b : Bool) → size_ok p ≡ b → (said : Said) × Judged k p l said
judged_by k p l true e = let s = size_sound p (subst T (sym e) tt) in judged_size k p l s (takes_told k p l s)
judged_by k p l false e = (refused 1, no_size (λ s. subst T e (size_complete p s)))

pub judged_total : (k : Kind) (p l : ℕ) → (said : Said) × Judged k p l said
judged_total k p l = judged_by k p l (size_ok p) refl
