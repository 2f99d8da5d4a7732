-- The rule of a table of house slopes, as a test that antt computes over any two lists, and the law that carries it to each entry.
-- Assumes nothing.
use Rattle.std.specs.Prelude.{◌≡◌, Bool, true, false, ◌&&◌, not, List, [], ◌∷◌, ℕ, zero, suc, ◌<◌, T, eqb, length}
use Rattle.std.proofs.Common.{le_of_suc-le-suc, not-suc-le-zero, zero-lt-suc, arith, T_not, eqb→eq}
use Rattle.std.proofs.Math.Dec.{not_T}
use Rattle.residue.specs.Size.{Size}
use Rattle.residue.specs.Test.{up_to, up_at, and_left, and_right, and_both, imp, imp_on}
use Rattle.house.specs.House.{HouseSlope, entry_at, HouseEntry, HouseTable}
use Rattle.house.specs.SizeTest.{size_ok, size_sound, size_complete}
use Rattle.house.specs.SlopeTest.{slope_ok, slope_sound, slope_complete}

-- no slope below l passes at p
abbrev none : ℕ → ℕ → Bool
none p l = up_to (λ j. not (slope_ok p j)) l

-- l is the first slope that passes at p
abbrev first : ℕ → ℕ → Bool
first p l = slope_ok p l && none p l

-- the test of an entry: its size passes, and its slope is the first that passes at it
abbrev entry_ok : ℕ → ℕ → Bool
entry_ok p l = size_ok p && first p l

-- the test of every entry: each size has a slope at the same place, and passes with it
abbrev entries_ok : List ℕ → List ℕ → Bool
entries_ok [] t = true
entries_ok (p ∷ s) [] = false
entries_ok (p ∷ s) (l ∷ t) = entry_ok p l && entries_ok s t

-- p is not among the sizes
abbrev lacks : List ℕ → ℕ → Bool
lacks [] p = true
lacks (q ∷ s) p = not (eqb q p) && lacks s p

-- p is no size, or among the sizes
abbrev listed : List ℕ → ℕ → Bool
listed s p = imp (size_ok p) (not (lacks s p))

-- the test of a table; no size is above 257
unfoldable pub table_ok : List ℕ → List ℕ → Bool
table_ok s t = entries_ok s t && up_to (listed s) 258

-- the first slope that passes is the house slope
house_sound : (p l : ℕ) → Size p → T (first p l) → HouseSlope p l
house_sound p l s t = record {
  allowed = slope_sound p l s.prime (and_left (slope_ok p l) (none p l) t);
  least = λ j h a.
      T_not (slope_ok p j) (up_at (λ i. not (slope_ok p i)) l (and_right (slope_ok p l) (none p l) t) j h) (slope_complete p j s.prime a);
}

-- an entry that passes is right
entry_sound : (p l : ℕ) → T (entry_ok p l) → HouseEntry p l
entry_sound p l o = (s, house_sound p l s (and_right (size_ok p) (first p l) o))
  where
    s : Size p
    s = size_sound p (and_left (size_ok p) (first p l) o)

each_sound : (s t : List ℕ) → T (entries_ok s t) → (k : ℕ) → k < length s → HouseEntry (entry_at s k) (entry_at t k)
each_sound [] t o k h = absurd (not-suc-le-zero h)
each_sound (p ∷ s) [] o k h = absurd o
each_sound (p ∷ s) (l ∷ t) o zero h = entry_sound p l (and_left (entry_ok p l) (entries_ok s t) o)
each_sound (p ∷ s) (l ∷ t) o (suc k) h = each_sound s t (and_right (entry_ok p l) (entries_ok s t) o) k (le_of_suc-le-suc h)

-- where p is not among the sizes, the test says so
lacks_complete : (s : List ℕ) (p : ℕ) → ((k : ℕ) → k < length s → entry_at s k ≡ p → ⊥) → T (lacks s p)
lacks_complete [] p f = tt
lacks_complete (q ∷ s) p f =
    and_both (not (eqb q p)) (lacks s p) (not_T (eqb q p) (λ e. f 0 (zero-lt-suc _) (eqb→eq q p e)))
    (lacks_complete s p (λ k h. f (suc k) (omega arith)))

-- a table that passes keeps the rule
pub table_sound : (s t : List ℕ) → T (table_ok s t) → HouseTable s t
unfolding table_ok
table_sound s t o = record { each = each_sound s t (and_left (entries_ok s t) (up_to (listed s) 258) o); every = go }
  where
    go : (p : ℕ) → ((k : ℕ) → k < length s → entry_at s k ≡ p → ⊥) → Size p → ⊥
    go p f z =
        T_not (lacks s p)
        (imp_on (size_ok p) (not (lacks s p))
        (up_at (listed s) 258 (and_right (entries_ok s t) (up_to (listed s) 258) o) p (omega (arith, z.high)))
        (size_complete p z))
        (lacks_complete s p f)
