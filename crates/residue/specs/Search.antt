-- The least number with a property that can be tested, below a bound. Assumes nothing.
use Rattle.std.specs.Prelude.{◌≡◌, ◌⊎◌, ℕ, zero, suc, ◌<◌}
use Rattle.std.proofs.Common.{subst, inl, inr, ⊎_elim, le_of_suc-le-suc, not-suc-le-zero, lt-suc_self, eq-or-lt_of_le}
use Rattle.std.proofs.Math.Nat.{le_step}
use native.Mathlib.Omega.{arith, by_contra}

-- k is below n, has the property, and no smaller number has it
pub record First (P : ℕ → Type 0) (n k : ℕ) : Type 0 where
  pub small : k < n
  pub has : P k
  pub none : (j : ℕ) → j < k → P j → ⊥

pub first : (P : ℕ → Type 0) → ((k : ℕ) → Dec (P k)) → (n : ℕ) → ((k : ℕ) × First P n k) ⊎ ((k : ℕ) → k < n → P k → ⊥)
first P d zero = inr (λ k h q. not-suc-le-zero h)
first P d (suc n) = go (first P d n) (d n)
  where
    go : ((k : ℕ) × First P n k) ⊎ ((k : ℕ) → k < n → P k → ⊥) → Dec (P n) → ((k : ℕ) × First P (suc n) k) ⊎ ((k : ℕ) → k < suc n → P k → ⊥)
    go (inl t) e = inl (t.0, record { small = le_step t.1.small; has = t.1.has; none = t.1.none })
    go (inr none) (yes q) = inl (n, record { small = lt-suc_self n; has = q; none = none })
    go (inr none) (no q) = inr (λ k h r. ⊎_elim (λ e. q (subst P e r)) (λ l. none k l r) (eq-or-lt_of_le (le_of_suc-le-suc h)))

-- properties that go together have the same least number
pub first_same : (P Q : ℕ → Type 0) (n j k : ℕ) → ((i : ℕ) → P i → Q i) → ((i : ℕ) → Q i → P i) → First P n j → First Q n k → j ≡ k
first_same P Q n j k there back a b =
    let up : j < k → ⊥ = λ h. b.none j h (there j a.has) in
    let down : k < j → ⊥ = λ h. a.none k h (back k b.has) in
    omega (arith, by_contra k j up, by_contra j k down)

-- where each number can be decided, one below n has the property, or none has
pub some_or_none : (P : ℕ → Type 0) → ((k : ℕ) → Dec (P k)) → (n : ℕ) → ((k : ℕ) × (k < n) × P k) ⊎ ((k : ℕ) → k < n → P k → ⊥)
some_or_none P d n = ⊎_elim (λ t. inl (t.0, t.1.small, t.1.has)) inr (first P d n)
