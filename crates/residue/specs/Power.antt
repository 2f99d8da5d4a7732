-- The powers of l modulo a prime p: that they reach each remainder from 1 on is that none of them but the first is 1.
-- Where they reach all, the numbers o, l o, l² o, .. pass each remainder from 1 on once, and come back to o. Assumes nothing.
use Rattle.std.specs.Prelude.{◌≡◌, ◌≢◌, ◌⊎◌, ℕ, zero, suc, ◌+◌, ◌*◌, ◌-◌, ◌%◌, ◌^◌, ◌≤◌, ◌<◌}
use Rattle.std.proofs.Common.{ap, sym, ◌∙◌, inl, inr, ⊎_elim, pow-suc, one-mul, zero-mul, mul-one, mul_comm, mod-lt, mod-eq_of_lt, eq-zero-or-pos, le_of_suc-le-suc, mul-le-mul_left, mul-le-mul_right, add-one, pow-add}
use Rattle.std.proofs.Math.Nat.{pow-succ', pow-zero, zero-mod}
use native.Mathlib.Omega.{arith, by_contra}
use Rattle.residue.specs.Remainder.{same, alike, mod_mul_mod, mul_mod_mod, add_alike, below_pos, undo}
use Rattle.residue.specs.Prime.{Prime, mul_cancel, euclid, inverse}
use Rattle.residue.specs.Pigeon.{onto, onto_once}

-- SPEC 2.2: one of the powers l⁰ to l^(p-2) leaves r, divided by p
abbrev pub Reaches : ℕ → ℕ → ℕ → Type 0
Reaches p l r = (k : ℕ) × (k < p - 1) × ((l ^ k) % p ≡ r)

-- SPEC 2.2: between them these powers leave every remainder but 0
abbrev pub ReachesAll : ℕ → ℕ → Type 0
ReachesAll p l = (r : ℕ) → 0 < r → r < p → Reaches p l r

-- no power of l but the first is 1
abbrev pub NoReturn : ℕ → ℕ → Type 0
NoReturn p l = (k : ℕ) → 0 < k → k < p - 1 → (l ^ k) % p ≢ 1

-- the k-th of the numbers o, l o, l² o, .. modulo p
abbrev pub spun : ℕ → ℕ → ℕ → ℕ → ℕ
spun p l o k = (l ^ k * o) % p

-- the first is o, and each is l times the one before
pub spun_first : (p l o : ℕ) → o < p → spun p l o 0 ≡ o
spun_first p l o h = same p (ap (λ (x : ℕ). x * o) (pow-zero l) ∙ one-mul o) ∙ mod-eq_of_lt h

pub spun_next : (p l o k : ℕ) → spun p l o (k + 1) ≡ (l * spun p l o k) % p
spun_next p l o k =
    same p (ap (λ (x : ℕ). l ^ x * o) (add-one k) ∙ ap (λ (x : ℕ). x * o) (pow-succ' l k) ∙ omega arith) ∙ sym (mul_mod_mod p l (l ^ k * o))

-- no two of the powers are alike
pub powers_once : (p l : ℕ) → ReachesAll p l → (j k : ℕ) → j < k → k < p - 1 → (l ^ j) % p ≢ (l ^ k) % p
powers_once p l all j k jk kn e =
    onto_once (p - 1) (λ i. (l ^ i) % p - 1)
    (λ r h. let t = all (suc r) (omega arith) (omega arith) in (t.0, t.1, omega (arith, t.2)))
    j k jk kn (ap (λ (x : ℕ). x - 1) e)

module _ (p l : ℕ) (P : Prime p) where
  one : 1 % p ≡ 1
  one = mod-eq_of_lt P.two

  -- no power of l is a multiple of p
  pub power_pos : 0 < l % p → (k : ℕ) → 0 < (l ^ k) % p
  power_pos h zero = rw (pow-zero l) (below_pos p 1 (omega arith) P.two)
  power_pos h (suc k) = by_contra 1 _ (λ none.
      let zero? : (l * l ^ k) % p ≡ 0 = same p (sym (pow-succ' l k)) ∙ omega arith in
      ⊎_elim (λ z. omega arith) (λ z. omega (arith, power_pos h k)) (euclid P l (l ^ k) zero?))

  -- .. and none of those numbers is
  pub spun_pos : 0 < l % p → (o : ℕ) → 0 < o % p → (k : ℕ) → 0 < spun p l o k
  spun_pos h o ho k = by_contra 1 _ (λ none.
      let zero? : spun p l o k ≡ 0 = omega arith in
      ⊎_elim (λ z. omega (arith, power_pos h k)) (λ z. omega arith) (euclid P (l ^ k) o zero?))

  -- what is left between two powers that are alike is 1
  pub between : 0 < l % p → (j k : ℕ) → j ≤ k → (l ^ j) % p ≡ (l ^ k) % p → (l ^ (k - j)) % p ≡ 1
  between h j k jk e =
      let sum : k ≡ j + (k - j) = omega arith in
      sym (mul_cancel P (l ^ j) 1 (l ^ (k - j)) (power_pos h j) (same p (mul-one _) ∙ e ∙ same p (ap (λ (x : ℕ). l ^ x) sum ∙ pow-add l j (k - j)))) ∙ one

  -- the powers reach all exactly if none but the first is 1
  pub no_return_reaches : 0 < l % p → NoReturn p l → ReachesAll p l
  no_return_reaches h none r hr lt =
      let t = onto (p - 1) (λ k. (l ^ k) % p - 1) (λ k kn. omega (arith, power_pos h k, mod-lt (l ^ k) {m = p} (omega arith)))
      (λ j k jk kn. omega (arith, once j k jk kn, power_pos h j, power_pos h k)) (r - 1) (omega arith) in
      (t.0, t.1, omega (arith, t.2, power_pos h t.0))
    where
      once : (j k : ℕ) → j < k → k < p - 1 → (l ^ j) % p ≢ (l ^ k) % p
      once j k jk kn e = none (k - j) (omega arith) (omega arith) (between h j k (omega arith) e)

  pub reaches_no_return : ReachesAll p l → NoReturn p l
  reaches_no_return all k h lt e = powers_once p l all 0 k h lt (same p (pow-zero l) ∙ one ∙ sym e)

  module _ (h : 0 < l % p) (all : ReachesAll p l) where
    -- the powers come back to 1
    pub power_last : (l ^ (p - 1)) % p ≡ 1
    power_last = go (all ((l ^ (p - 1)) % p) (power_pos h (p - 1)) (mod-lt _ (omega (arith, P.two))))
      where
        at_start : (k : ℕ) → (l ^ k) % p ≡ (l ^ (p - 1)) % p → (k ≡ 0) ⊎ (0 < k) → k < p - 1 → (l ^ (p - 1)) % p ≡ 1
        at_start k e (inl z) lt = sym e ∙ same p (ap (λ (x : ℕ). l ^ x) z ∙ pow-zero l) ∙ one
        at_start k e (inr s) lt = absurd (reaches_no_return all (p - 1 - k) (omega arith) (omega arith) (between h k (p - 1) (omega arith) e))

        go : Reaches p l ((l ^ (p - 1)) % p) → (l ^ (p - 1)) % p ≡ 1
        go t = at_start t.0 t.2 (eq-zero-or-pos t.0) t.1

    -- o, l o, l² o, ..: these p - 1 numbers pass each remainder from 1 on ..
    pub spun_meets : (o m : ℕ) → 0 < o % p → 0 < m → m < p → (k : ℕ) × (k < p - 1) × (spun p l o k ≡ m)
    spun_meets o m ho hm lt = (t.0, t.1, sym (mod_mul_mod p (l ^ t.0) o) ∙ ap (λ (x : ℕ). x * o % p) t.2 ∙ at)
      where
        i : (e : ℕ) × (e < p) × ((o * e) % p ≡ 1)
        i = inverse p o P ho

        r : ℕ
        r = (m * i.0) % p

        at : (r * o) % p ≡ m
        at = mod_mul_mod p (m * i.0) o ∙ same p (omega arith) ∙ undo p o i.0 m i.2 ∙ mod-eq_of_lt lt

        r_pos : 0 < r
        r_pos = by_contra 1 r (λ none. omega (arith, sym at ∙ ap (λ (x : ℕ). x * o % p) (r_zero none) ∙ same p (zero-mul o) ∙ zero-mod p))
          where
            r_zero : r < 1 → r ≡ 0
            r_zero none = omega arith

        t : Reaches p l r
        t = all r r_pos (mod-lt _ (omega arith))

    -- .. once ..
    pub spun_once : (o j k : ℕ) → 0 < o % p → j < k → k < p - 1 → spun p l o j ≢ spun p l o k
    spun_once o j k ho jk kn e =
        powers_once p l all j k jk kn (mul_cancel P o (l ^ j) (l ^ k) ho (same p (mul_comm o (l ^ j)) ∙ e ∙ same p (mul_comm (l ^ k) o)))

    -- .. and come back to o
    pub spun_closes : (o : ℕ) → spun p l o (p - 1) ≡ spun p l o 0
    spun_closes o =
        sym (mod_mul_mod p (l ^ (p - 1)) o) ∙ ap (λ (x : ℕ). x * o % p) (power_last ∙ sym (same p (pow-zero l) ∙ one)) ∙ mod_mul_mod p (l ^ 0) o

-- the powers, one from the other
pub first_power : (p l : ℕ) → l < p → l ≡ (l ^ 1) % p
first_power p l h = sym (same p (pow-suc l 0 ∙ ap (λ (x : ℕ). x * l) (pow-zero l) ∙ one-mul l) ∙ mod-eq_of_lt h)

pub next_power : (p l i x : ℕ) → x ≡ (l ^ i) % p → (x * l) % p ≡ (l ^ (i + 1)) % p
next_power p l i x e = ap (λ (y : ℕ). y * l % p) e ∙ mod_mul_mod p (l ^ i) l ∙ same p (sym (ap (λ (y : ℕ). l ^ y) (add-one i) ∙ pow-suc l i))

-- the inverse m of a number l from 2 to p - 2 is from 2 to p - 2 too
pub inverse_between : (p l m : ℕ) → Prime p → m < p → (l * m) % p ≡ 1 → 2 ≤ l → l + 2 ≤ p → (2 ≤ m) × (m + 2 ≤ p)
inverse_between p l m P m<p inv lo hi = (by_contra 2 m low, by_contra (m + 2) p high)
  where
    low : m < 2 → ⊥
    low h =
        let one : l * m ≡ 1 = sym (mod-eq_of_lt (omega (arith, mul-le-mul_left l (le_of_suc-le-suc h)))) ∙ inv in
        let none : m ≤ 0 = omega (arith, mul-le-mul_right m lo) in
        omega (arith, mul-le-mul_left l none)

    high : p < m + 2 → ⊥
    high h =
        let last : suc m ≡ p = omega arith in
        let none : (l * m + l) % p ≡ 0 = alike p _ 0 0 l (omega (arith, ap (λ (x : ℕ). l * x) last)) ∙ zero-mod p in
        omega (arith, none, add_alike p (l * m) 1 l (inv ∙ sym (mod-eq_of_lt P.two)), mod-eq_of_lt {n = 1 + l} {m = p} (omega arith))
