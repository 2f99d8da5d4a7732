-- The pigeonhole laws: no list of n numbers covers m > n, none without repeats fits below m < n, and n without repeats below n cover it; and n that cover it have no repeats.
-- Each takes the last number v away and closes the gap that it leaves. Assumes nothing.
use Rattle.std.specs.Prelude.{◌≡◌, ◌⊎◌, ◌≢◌, ℕ, zero, suc, ◌+◌, ◌-◌, min, ◌<◌}
use Rattle.std.proofs.Common.{ap, sym, ◌∙◌, inl, inr, ⊎_elim, le_of_suc-le-suc, not-suc-le-zero, lt-suc_self, eq-or-lt_of_le, lt_trans, arith}
use Rattle.std.proofs.Math.Nat.{le_step}
use Rattle.std.proofs.Math.Decide.{ℕ_discrete}

-- the numbers without v, moved down to close the gap; and back
abbrev squeeze : ℕ → ℕ → ℕ
squeeze v x = x - min 1 (x - v)

abbrev stretch : ℕ → ℕ → ℕ
stretch v x = x + min 1 (suc x - v)

back : (v x : ℕ) → x ≢ v → stretch v (squeeze v x) ≡ x
back v x h = omega arith

apart : (v a b : ℕ) → a ≢ v → b ≢ v → a ≢ b → squeeze v a ≢ squeeze v b
apart v a b ha hb d e = d (sym (back v a ha) ∙ ap (stretch v) e ∙ back v b hb)

-- n numbers do not cover all below a larger m
pub no_onto : (n m : ℕ) (f : ℕ → ℕ) → n < m → ((r : ℕ) → r < m → (k : ℕ) × (k < n) × (f k ≡ r)) → ⊥
no_onto zero m f h g = not-suc-le-zero (g 0 h).1
no_onto (suc n) zero f h g = not-suc-le-zero h
no_onto (suc n) (suc m) f h g =
    no_onto n m (λ k. squeeze (f n) (f k)) (le_of_suc-le-suc h) (λ r lt. go r (g (stretch (f n) r) (omega arith)))
  where
    go : (r : ℕ) → (k : ℕ) × (k < suc n) × (f k ≡ stretch (f n) r) → (k : ℕ) × (k < n) × (squeeze (f n) (f k) ≡ r)
    go r t = pick (eq-or-lt_of_le (le_of_suc-le-suc t.1))
      where
        pick : (t.0 ≡ n) ⊎ (t.0 < n) → (k : ℕ) × (k < n) × (squeeze (f n) (f k) ≡ r)
        pick (inl e) = absurd (omega (arith, t.2, ap f e))
        pick (inr lt) = (t.0, lt, omega (arith, t.2))

-- n different numbers are not all below a smaller m
pub no_into : (n m : ℕ) (f : ℕ → ℕ) → m < n → ((k : ℕ) → k < n → f k < m) → ((j k : ℕ) → j < k → k < n → f j ≢ f k) → ⊥
no_into zero m f h b d = not-suc-le-zero h
no_into (suc n) zero f h b d = not-suc-le-zero (b 0 h)
no_into (suc n) (suc m) f h b d =
    no_into n m (λ k. squeeze (f n) (f k)) (le_of_suc-le-suc h)
    (λ k lt. omega (arith, b k (le_step lt), b n (lt-suc_self n), d k n lt (lt-suc_self n)))
    (λ j k jk kn. apart (f n) (f j) (f k) (d j n (lt_trans jk kn) (lt-suc_self n)) (d k n kn (lt-suc_self n)) (d j k jk (le_step kn)))

-- one of n numbers is r, or none is
find : (f : ℕ → ℕ) (r n : ℕ) → ((k : ℕ) × (k < n) × (f k ≡ r)) ⊎ ((k : ℕ) → k < n → f k ≢ r)
find f r zero = inr (λ k h e. not-suc-le-zero h)
find f r (suc n) = go (ℕ_discrete (f n) r) (find f r n)
  where
    go : Dec (f n ≡ r) → ((k : ℕ) × (k < n) × (f k ≡ r)) ⊎ ((k : ℕ) → k < n → f k ≢ r) → ((k : ℕ) × (k < suc n) × (f k ≡ r)) ⊎ ((k : ℕ) → k < suc n → f k ≢ r)
    go (yes e) d = inl (n, lt-suc_self n, e)
    go (no ne) (inl t) = inl (t.0, le_step t.1, t.2)
    go (no ne) (inr none) = inr (λ k h e. ⊎_elim (λ q. ne (sym (ap f q) ∙ e)) (λ lt. none k lt e) (eq-or-lt_of_le (le_of_suc-le-suc h)))

-- n different numbers below n cover all below n
pub onto : (n : ℕ) (f : ℕ → ℕ) → ((k : ℕ) → k < n → f k < n) → ((j k : ℕ) → j < k → k < n → f j ≢ f k) → (r : ℕ) → r < n → (k : ℕ) × (k < n) × (f k ≡ r)
onto n f b d r h = go (find f r n)
  where
    go : ((k : ℕ) × (k < n) × (f k ≡ r)) ⊎ ((k : ℕ) → k < n → f k ≢ r) → (k : ℕ) × (k < n) × (f k ≡ r)
    go (inl t) = t
    go (inr none) = absurd (no_into n (n - 1) (λ k. squeeze r (f k)) (omega arith) (λ k lt. omega (arith, b k lt, none k lt)) (λ j k jk kn. apart r (f j) (f k) (none j (lt_trans jk kn)) (none k kn) (d j k jk kn)))

-- n numbers that cover all below n are all different: take one of two equal ones away, and n - 1 would cover n
pub onto_once : (n : ℕ) (f : ℕ → ℕ) → ((r : ℕ) → r < n → (k : ℕ) × (k < n) × (f k ≡ r)) → (j k : ℕ) → j < k → k < n → f j ≢ f k
onto_once n f g j k jk kn e = no_onto (n - 1) n (λ i. f (stretch k i)) (omega arith) (λ r h. go r (g r h))
  where
    at : (r i : ℕ) → i < n → f i ≡ r → i ≢ k → (m : ℕ) × (m < n - 1) × (f (stretch k m) ≡ r)
    at r i lt q d = (squeeze k i, omega arith, ap f (back k i d) ∙ q)

    go : (r : ℕ) → (i : ℕ) × (i < n) × (f i ≡ r) → (m : ℕ) × (m < n - 1) × (f (stretch k m) ≡ r)
    go r t = pick (ℕ_discrete t.0 k)
      where
        pick : Dec (t.0 ≡ k) → (m : ℕ) × (m < n - 1) × (f (stretch k m) ≡ r)
        pick (yes q) = at r j (omega arith) (e ∙ ap f (sym q) ∙ t.2) (omega arith)
        pick (no d) = at r t.0 t.1 t.2 d
