-- What a place holds after several corrections that each say rightly what was there: what the last one put (SPEC 6.5). Assumes nothing.
use Rattle.std.specs.Prelude.{◌≡◌, List, ℕ, zero, suc, ◌+◌, ◌≤◌, ◌<◌}
use Rattle.std.proofs.Common.{sym, ap, ap₂, ◌∙◌, le_antisymm, add-one, eq-eqb}
use Rattle.std.proofs.Math.Decide.{ℕ_discrete}
use native.Mathlib.Omega.{arith, by_contra}
use Rattle.xor.specs.Xor.{◌⊕◌, assoc, again, zero_r}
use Rattle.sheet.specs.Sheet.{records, row_of, column_of, Names, was_of, is_of, given}
use Rattle.sheet.specs.Make.{lonely, lonely_off, given_none, given_more}

-- SPEC 6.5: no record names row i and column j, from the m-th to the one before the n-th
abbrev pub NoneFrom : List ℕ → ℕ → ℕ → ℕ → ℕ → Type 0
NoneFrom sheet i j m n = (k : ℕ) → m ≤ k → k < n → Names sheet i j k → ⊥

-- SPEC 6.5: `was` is true: the place's first record has b, which the repaired text holds there, and each later one what the one before put
pub record Follows (sheet : List ℕ) (i j b : ℕ) : Type 0 where
  pub first : (k : ℕ) → k < records sheet → Names sheet i j k → NoneFrom sheet i j 0 k → was_of sheet k ≡ b
  pub later : (m k : ℕ) → m < k → k < records sheet → Names sheet i j m → Names sheet i j k → NoneFrom sheet i j (m + 1) k → was_of sheet k ≡ is_of sheet m

-- SPEC 6.5: the k-th record is the last that names the place
pub record Last (sheet : List ℕ) (i j k : ℕ) : Type 0 where
  pub within : k < records sheet
  pub names : Names sheet i j k
  pub after : NoneFrom sheet i j (k + 1) (records sheet)

module _ (sheet : List ℕ) (i j b : ℕ) (follows : Follows sheet i j b) where
  -- what the first n records make of b
  abbrev made : ℕ → ℕ
  made n = b ⊕ given sheet n i j

  -- no record has named the place yet, and b stands there; or the k-th was the last that did, and what it says is to be there stands there
  data Standing (n : ℕ) : Type 0 where
    as_it_was : NoneFrom sheet i j 0 n → made n ≡ b → Standing n
    put_by : (k : ℕ) → k < n → Names sheet i j k → NoneFrom sheet i j (k + 1) n → made n ≡ is_of sheet k → Standing n

  made_next : (n : ℕ) → made (suc n) ≡ made n ⊕ lonely sheet n i j
  made_next n = ap (λ (m : ℕ). made m) (sym (add-one n)) ∙ ap (λ (x : ℕ). b ⊕ x) (given_more sheet n i j) ∙ sym (assoc _ _ _)

  -- a record that names the place says rightly what stands there ..
  rightly : (n : ℕ) → n < records sheet → Names sheet i j n → Standing n → made n ≡ was_of sheet n
  rightly n h names (as_it_was none e) = e ∙ sym (follows.first n h names none)
  rightly n h names (put_by k l before none e) = e ∙ sym (follows.later k n l h before names none)

  -- .. and puts there what is to be
  puts : (n : ℕ) → Names sheet i j n → made n ≡ was_of sheet n → made (suc n) ≡ is_of sheet n
  puts n names e =
      made_next n ∙ ap₂ ◌⊕◌ e (rw (eq-eqb i (row_of sheet n) names.0, eq-eqb j (column_of sheet n) names.1))
      ∙ again (was_of sheet n) (is_of sheet n)

  -- another leaves what stands there
  kept : (n : ℕ) → (Names sheet i j n → ⊥) → made (suc n) ≡ made n
  kept n d = made_next n ∙ ap (λ (x : ℕ). made n ⊕ x) (lonely_off sheet n i j d) ∙ zero_r _

  further : (m n : ℕ) → (Names sheet i j n → ⊥) → NoneFrom sheet i j m n → NoneFrom sheet i j m (suc n)
  further m n d none k h l names = go (ℕ_discrete k n)
    where
      go : Dec (k ≡ n) → ⊥
      go (yes e) = d (rw e at names)
      go (no f) = none k h (omega arith) names

  leaves : (n : ℕ) → (Names sheet i j n → ⊥) → Standing n → Standing (suc n)
  leaves n d (as_it_was none e) = as_it_was (further 0 n d none) (kept n d ∙ e)
  leaves n d (put_by k l names none e) = put_by k (omega arith) names (further (k + 1) n d none) (kept n d ∙ e)

  -- so it goes from record to record
  standing : (n : ℕ) → n ≤ records sheet → Standing n
  standing zero h = as_it_was (λ k q l. omega arith) (ap (λ (x : ℕ). b ⊕ x) (given_none sheet i j) ∙ zero_r b)
  standing (suc n) h = go (standing n (omega arith)) (ℕ_discrete i (row_of sheet n)) (ℕ_discrete j (column_of sheet n))
    where
      go : Standing n → Dec (i ≡ row_of sheet n) → Dec (j ≡ column_of sheet n) → Standing (suc n)
      go s (yes e) (yes f) = put_by n (omega arith) (e, f) (λ k q l. omega arith) (puts n (e, f) (rightly n (omega arith) (e, f) s))
      go s (yes e) (no f) = leaves n (λ t. f t.1) s
      go s (no e) f = leaves n (λ t. e t.0) s

  -- and after all records what the last one put stands there
  pub last_made : (k : ℕ) → Last sheet i j k → b ⊕ given sheet (records sheet) i j ≡ is_of sheet k
  last_made k last = go (standing (records sheet) (omega arith))
    where
      go : Standing (records sheet) → made (records sheet) ≡ is_of sheet k
      go (as_it_was none e) = absurd (none k (omega arith) last.within last.names)
      go (put_by m h names none e) =
          let same : m ≡ k = le_antisymm (by_contra m k (λ q. last.after m (omega arith) h names)) (by_contra k m (λ q. none k (omega arith) last.within last.names)) in
          e ∙ ap (is_of sheet) same
