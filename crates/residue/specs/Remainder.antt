-- Remainders modulo any number p. Numbers are called alike where they leave the same remainder. Assumes nothing.
use Rattle.std.specs.Prelude.{◌≡◌, ℕ, ◌+◌, ◌*◌, ◌-◌, ◌/◌, ◌%◌, ◌<◌}
use Rattle.std.proofs.Common.{ap, sym, ◌∙◌, add_comm, div-add-mod', mod-lt, mod-eq_of_lt, arith}
use Rattle.std.proofs.Math.Nat.{add-mul-mod_self_right, mod-add-mod}

module _ (p : ℕ) where
  -- numbers that differ by multiples of p are alike, and the reverse
  pub alike : (a b j k : ℕ) → a + j * p ≡ b + k * p → a % p ≡ b % p
  alike a b j k e = sym (add-mul-mod_self_right a j p) ∙ ap (λ (x : ℕ). x % p) e ∙ add-mul-mod_self_right b k p

  pub differ : (a b : ℕ) → a % p ≡ b % p → a + b / p * p ≡ b + a / p * p
  differ a b e = omega (arith, div-add-mod' a p, div-add-mod' b p)

  pub same : {a b : ℕ} → a ≡ b → a % p ≡ b % p
  same e = ap (λ (x : ℕ). x % p) e

  -- a factor may be reduced
  pub mod_mul_mod : (a b : ℕ) → (a % p * b) % p ≡ (a * b) % p
  mod_mul_mod a b = alike _ _ (a / p * b) 0 (omega (arith, ap (λ (x : ℕ). x * b) (div-add-mod' a p)))

  pub mul_mod_mod : (a b : ℕ) → (a * (b % p)) % p ≡ (a * b) % p
  mul_mod_mod a b = alike _ _ (a * (b / p)) 0 (omega (arith, ap (λ (x : ℕ). a * x) (div-add-mod' b p)))

  -- what is alike may stand for each other in a product and in a sum
  pub mul_alike : (a b c : ℕ) → a % p ≡ b % p → (a * c) % p ≡ (b * c) % p
  mul_alike a b c e = sym (mod_mul_mod a c) ∙ ap (λ (x : ℕ). x * c % p) e ∙ mod_mul_mod b c

  pub add_alike : (a b c : ℕ) → a % p ≡ b % p → (a + c) % p ≡ (b + c) % p
  add_alike a b c e = sym (mod-add-mod a p c) ∙ ap (λ (x : ℕ). (x + c) % p) e ∙ mod-add-mod b p c

  -- a summand cancels
  pub add_cancel : (a b c : ℕ) → (a + c) % p ≡ (b + c) % p → a % p ≡ b % p
  add_cancel a b c e = alike a b ((b + c) / p) ((a + c) / p) (omega (arith, differ (a + c) (b + c) e))

  pub cancel_left : (k a b : ℕ) → (k + a) % p ≡ (k + b) % p → a % p ≡ b % p
  cancel_left k a b e = add_cancel a b k (same (add_comm a k) ∙ e ∙ same (add_comm k b))

  -- what has an inverse cancels
  pub undo : (a e b : ℕ) → (a * e) % p ≡ 1 → (a * b * e) % p ≡ b % p
  undo a e b h = alike _ _ 0 (a * e / p * b) (omega (arith, ap (λ (x : ℕ). x * b) (div-add-mod' (a * e) p), ap (λ (x : ℕ). x * b) h))

  pub inverse_cancel : (a e b c : ℕ) → (a * e) % p ≡ 1 → (a * b) % p ≡ (a * c) % p → b % p ≡ c % p
  inverse_cancel a e b c h k = sym (undo a e b h) ∙ mul_alike _ _ e k ∙ undo a e c h

-- p steps of d come back to where they began
pub steps_close : (p c d : ℕ) → (c + p * d) % p ≡ (c + 0 * d) % p
steps_close p c d = alike p _ _ 0 d (omega arith)

-- numbers below p that are alike are equal
pub below : (p a b : ℕ) → a < p → b < p → a % p ≡ b % p → a ≡ b
below p a b h k e = sym (mod-eq_of_lt h) ∙ e ∙ mod-eq_of_lt k

pub below_pos : (p a : ℕ) → 0 < a → a < p → 0 < a % p
below_pos p a h k = omega (arith, mod-eq_of_lt k)

-- a step of k comes to the same place from one place only
pub same_step : (p k i j : ℕ) → i < p → j < p → (i + k) % p ≡ (j + k) % p → i ≡ j
same_step p k i j hi hj e = below p i j hi hj (add_cancel p i j k e)

-- the place from which a step of k comes to t: t - k modulo p
abbrev pub before : ℕ → ℕ → ℕ → ℕ
before p k t = (t + (p - k % p)) % p

pub before_lt : (p k t : ℕ) → 0 < p → before p k t < p
before_lt p k t h = mod-lt (t + (p - k % p)) h

pub before_step : (p k t : ℕ) → t < p → (before p k t + k) % p ≡ t
before_step p k t h =
    let r : k % p < p = mod-lt k (omega arith) in
    mod-add-mod (t + (p - k % p)) p k ∙ alike p _ t 0 (1 + k / p) (omega (arith, div-add-mod' k p)) ∙ mod-eq_of_lt h

-- .. and back
pub step_before : (p k i : ℕ) → i < p → before p k ((i + k) % p) ≡ i
step_before p k i h =
    let pos : 0 < p = omega arith in
    same_step p k (before p k ((i + k) % p)) i (before_lt p k ((i + k) % p) pos) h (before_step p k ((i + k) % p) (mod-lt (i + k) pos))
