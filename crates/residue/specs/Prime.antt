-- What holds modulo a prime: an inverse, cancelling, Euclid's law, and steps that pass each remainder once. Assumes nothing.
use Rattle.std.specs.Prelude.{◌≡◌, ◌⊎◌, ℕ, zero, suc, ◌+◌, ◌*◌, ◌-◌, ◌/◌, ◌%◌, ◌≤◌, ◌<◌}
use Rattle.std.proofs.Common.{ap, sym, ◌∙◌, inl, inr, ⊎_elim, div-add-mod', mod-lt, mod-eq_of_lt, eq-zero-or-pos, eq-or-lt_of_le, zero-lt-suc, mul-zero, arith}
use Rattle.std.proofs.Math.Nat.{zero-mod}
use Rattle.residue.specs.Remainder.{same, alike, mod_mul_mod, mul_mod_mod, add_alike, add_cancel, undo, inverse_cancel, below}

-- SPEC 2.1: p is prime: 2 or more, and no number from 2 below p divides it
pub record Prime (p : ℕ) : Type 0 where
  pub two : 2 ≤ p
  pub whole : (d : ℕ) → 2 ≤ d → d < p → p % d ≡ 0 → ⊥

-- a prime above 2 is odd
pub prime_odd : (p : ℕ) → Prime p → 2 < p → p % 2 ≡ 1
prime_odd p P h = ⊎_elim (λ e. absurd (P.whole 2 (omega arith) h e)) (λ l. omega (arith, mod-lt p {m = 2} (omega arith))) (eq-zero-or-pos (p % 2))

-- each number from 1 below a prime has an inverse: with p = q a + r, that of r, times -q. By strong induction; f bounds a
inverse_in : (f n a : ℕ) → Prime (suc n) → 0 < a → a ≤ f → a < suc n → (e : ℕ) × ((a * e) % suc n ≡ 1)
inverse_in zero n a P h le lt = absurd (omega arith)
inverse_in (suc f) n a P h le lt = go (eq-zero-or-pos (p % a)) (eq-or-lt_of_le h) (inverse_in f n (p % a) P)
  where
    p : ℕ
    p = suc n

    r<a : p % a < a
    r<a = mod-lt p h

    go : (p % a ≡ 0) ⊎ (0 < p % a) → (1 ≡ a) ⊎ (1 < a) → (0 < p % a → p % a ≤ f → p % a < p → (e : ℕ) × ((p % a * e) % p ≡ 1)) → (e : ℕ) × ((a * e) % p ≡ 1)
    go (inl z) (inl one) ih = (1, same p (omega arith) ∙ mod-eq_of_lt P.two)
    go (inl z) (inr two) ih = absurd (P.whole a two lt z)
    go (inr s) d ih =
        let t = ih s (omega (arith, r<a)) (omega (arith, r<a)) in (
          p / a * t.0 * n,
          alike p _ (p % a * t.0) t.0 (a * (p / a) * t.0) (omega (arith, ap (λ (x : ℕ). x * t.0) (div-add-mod' p a))) ∙ t.1,
        )

-- the inverse of what is no multiple of p, below p
pub inverse : (p a : ℕ) → Prime p → 0 < a % p → (e : ℕ) × (e < p) × ((a * e) % p ≡ 1)
inverse zero a P h = absurd (omega (arith, P.two))
inverse (suc n) a P h =
    let t = inverse_in (suc n) n (a % suc n) P h (omega (arith, mod-lt a (zero-lt-suc n))) (mod-lt a (zero-lt-suc n)) in
    (t.0 % suc n, mod-lt _ (zero-lt-suc n), mul_mod_mod (suc n) a t.0 ∙ sym (mod_mul_mod (suc n) a t.0) ∙ t.1)

module _ {p : ℕ} (P : Prime p) where
  -- a factor that is no multiple of p cancels
  pub mul_cancel : (a b c : ℕ) → 0 < a % p → (a * b) % p ≡ (a * c) % p → b % p ≡ c % p
  mul_cancel a b c h e = let t = inverse p a P h in inverse_cancel p a t.0 b c t.2 e

  -- Euclid: a product is a multiple of p only where a factor is
  pub euclid : (a b : ℕ) → (a * b) % p ≡ 0 → (a % p ≡ 0) ⊎ (b % p ≡ 0)
  euclid a b e = go (eq-zero-or-pos (a % p))
    where
      go : (a % p ≡ 0) ⊎ (0 < a % p) → (a % p ≡ 0) ⊎ (b % p ≡ 0)
      go (inl z) = inl z
      go (inr h) = inr (mul_cancel a b 0 h (e ∙ sym (ap (λ (x : ℕ). x % p) (mul-zero a) ∙ zero-mod p)) ∙ zero-mod p)

  -- the steps c, c + d, c + 2 d, ..: the first p of them pass each remainder
  pub meets : (c d m : ℕ) → 0 < d % p → m < p → (k : ℕ) × (k < p) × ((c + k * d) % p ≡ m)
  meets c d m h lt = (k, mod-lt (x * e) (omega arith), same p (omega arith) ∙ add_alike p (k * d) x c step ∙ alike p _ m 0 (1 + c / p) (omega (arith, div-add-mod' c p, mod-lt c {m = p} (omega arith))) ∙ mod-eq_of_lt lt)
    where
      t : (e : ℕ) × (e < p) × ((d * e) % p ≡ 1)
      t = inverse p d P h

      e : ℕ
      e = t.0

      x : ℕ
      x = m + (p - c % p)

      k : ℕ
      k = (x * e) % p

      step : (k * d) % p ≡ x % p
      step = mod_mul_mod p (x * e) d ∙ same p (omega arith) ∙ undo p d e x t.2

  -- .. once. (`steps_close`: and the p-th is the first again)
  pub once : (c d k j : ℕ) → 0 < d % p → k < p → j < p → (c + k * d) % p ≡ (c + j * d) % p → k ≡ j
  once c d k j h hk hj e = below p k j hk hj (mul_cancel d k j h (add_cancel p (d * k) (d * j) c (same p (omega arith) ∙ e ∙ same p (omega arith))))
