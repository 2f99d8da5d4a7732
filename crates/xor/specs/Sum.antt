-- The exclusive or of f 0, .., f (n - 1), and its laws. Assumes nothing.
use Rattle.std.specs.Prelude.{◌≡◌, refl, ◌≢◌, ◌⊎◌, Bool, true, false, ℕ, zero, suc, ◌+◌, ◌%◌, ◌<◌, eqb}
use Rattle.std.proofs.Common.{sym, ap, ap₂, ◌∙◌, inl, inr, eq-or-lt_of_le, le_of_suc-le-suc, lt-suc_self, zero-lt-suc, add-one, arith, eqb-true, eq-eqb}
use Rattle.std.proofs.Math.Nat.{le_step}
use Rattle.xor.specs.Xor.{◌⊕◌, xors, assoc, four, zero_l, zero_r, byte}

-- SPEC 1.1: f 0 ⊕ .. ⊕ f (n - 1), and 0 for n = 0
unfoldable pub xor_below : ℕ → (ℕ → ℕ) → ℕ
xor_below zero f = 0
xor_below (suc n) f = xor_below n f ⊕ f n

-- the two clauses as laws, for the code's 0 and n + 1
pub none : (f : ℕ → ℕ) → xor_below 0 f ≡ 0
unfolding xor_below
none f = refl

pub more : (n : ℕ) (f : ℕ → ℕ) → xor_below (n + 1) f ≡ xor_below n f ⊕ f n
unfolding xor_below
more n f = ap (λ (m : ℕ). xor_below m f) (add-one n)

pub count : (n m : ℕ) (f : ℕ → ℕ) → n ≡ m → xor_below n f ≡ xor_below m f
count n m f e = ap (λ (k : ℕ). xor_below k f) e

-- SPEC 1.1: x where the test holds and else 0, so that a XOR takes those bytes alone that pass a test
abbrev pub keep : Bool → ℕ → ℕ
keep true x = x
keep false x = 0

pub keep_xor : (t : Bool) (x y : ℕ) → keep t (x ⊕ y) ≡ keep t x ⊕ keep t y
keep_xor true x y = refl
keep_xor false x y = sym (zero_l 0)

pub keep_zero : (t : Bool) → keep t 0 ≡ 0
keep_zero true = refl
keep_zero false = refl

-- two tests, in either order
pub keep_comm : (s t : Bool) (x : ℕ) → keep s (keep t x) ≡ keep t (keep s x)
keep_comm true t x = refl
keep_comm false t x = sym (keep_zero t)

pub keep_byte : (t : Bool) (x : ℕ) → x < 256 → keep t x < 256
keep_byte true x h = h
keep_byte false x h = zero-lt-suc 255

-- a sum depends on its terms alone
pub ext : (n : ℕ) (f g : ℕ → ℕ) → ((i : ℕ) → i < n → f i ≡ g i) → xor_below n f ≡ xor_below n g
unfolding xor_below
ext zero f g h = refl
ext (suc n) f g h = ap₂ ◌⊕◌ (ext n f g (λ i l. h i (le_step l))) (h n (lt-suc_self n))

-- zeros add up to zero
pub zeros : (n : ℕ) (f : ℕ → ℕ) → ((i : ℕ) → i < n → f i ≡ 0) → xor_below n f ≡ 0
unfolding xor_below
zeros zero f h = refl
zeros (suc n) f h = rw (zeros n f (λ i l. h i (le_step l)), h n (lt-suc_self n), zero_l)

-- the sum of f ⊕ g is that of f and that of g
pub split : (n : ℕ) (f g : ℕ → ℕ) → xor_below n (λ i. f i ⊕ g i) ≡ xor_below n f ⊕ xor_below n g
unfolding xor_below
split zero f g = sym (zero_l 0)
split (suc n) f g = ap (λ (x : ℕ). x ⊕ (f n ⊕ g n)) (split n f g) ∙ four (xor_below n f) (xor_below n g) (f n) (g n)

-- the first n terms, and the m terms after them
pub parts : (n m : ℕ) (f : ℕ → ℕ) → xor_below (n + m) f ≡ xor_below n f ⊕ xor_below m (λ k. f (n + k))
unfolding xor_below
parts n zero f = count (n + 0) n f (omega arith) ∙ sym (zero_r (xor_below n f))
parts n (suc m) f = count (n + suc m) (suc (n + m)) f (omega arith) ∙ rw (parts n m f) (assoc _ _ _)

-- by rows or by columns, a double sum is the same
pub swap : (n m : ℕ) (f : ℕ → ℕ → ℕ) → xor_below n (λ i. xor_below m (f i)) ≡ xor_below m (λ j. xor_below n (λ i. f i j))
unfolding xor_below
swap zero m f = sym (zeros m (λ j. 0) (λ j l. refl))
swap (suc n) m f = ap (λ (x : ℕ). x ⊕ xor_below m (f n)) (swap n m f) ∙ sym (split m (λ j. xor_below n (λ i. f i j)) (f n))

-- all terms but one are 0
pub single : (n k : ℕ) (f : ℕ → ℕ) → k < n → ((i : ℕ) → i < n → i ≢ k → f i ≡ 0) → xor_below n f ≡ f k
unfolding xor_below
single zero k f l h = omega arith
single (suc n) k f l h = go (eq-or-lt_of_le (le_of_suc-le-suc l)) (λ q. single n k f q (λ i r. h i (le_step r)))
  where
    go : (k ≡ n) ⊎ (k < n) → (k < n → xor_below n f ≡ f k) → xor_below n f ⊕ f n ≡ f k
    go (inl e) ih = rw (zeros n f (λ i r. h i (le_step r) (omega arith)), zero_l, e)
    go (inr q) ih = rw (ih q, h n (lt-suc_self n) (omega arith), zero_r)

-- the test holds of k alone
pub one : (n k : ℕ) (t : ℕ → Bool) (f : ℕ → ℕ) → k < n → t k ≡ true → ((i : ℕ) → i < n → t i ≡ true → i ≡ k)
    → xor_below n (λ i. keep (t i) (f i)) ≡ f k
one n k t f l e u = single n k (λ i. keep (t i) (f i)) l other ∙ rw e
  where
    off : (b : Bool) (i : ℕ) → (b ≡ true → i ≡ k) → i ≢ k → keep b (f i) ≡ 0
    off true i v d = absurd (d (v refl))
    off false i v d = refl

    other : (i : ℕ) → i < n → i ≢ k → keep (t i) (f i) ≡ 0
    other i q d = off (t i) i (u i q) d

-- .. the test for k itself
pub at : (n k : ℕ) (f : ℕ → ℕ) → k < n → xor_below n (λ i. keep (eqb k i) (f i)) ≡ f k
at n k f l = one n k (λ i. eqb k i) f l (eq-eqb k k refl) (λ i q e. sym (eqb-true k i e))

-- σ maps the numbers below n to themselves, and τ takes it back
pub record Turns (n : ℕ) (σ τ : ℕ → ℕ) : Type 0 where
  pub there : (i : ℕ) → i < n → σ i < n
  pub back : (i : ℕ) → i < n → τ i < n
  pub left : (i : ℕ) → i < n → τ (σ i) ≡ i
  pub right : (i : ℕ) → i < n → σ (τ i) ≡ i

-- so the order of the terms does not matter
pub reindex : (n : ℕ) (σ τ f : ℕ → ℕ) → Turns n σ τ → xor_below n (λ i. f (σ i)) ≡ xor_below n f
reindex n σ τ f w =
    ext n (λ i. f (σ i)) (λ i. xor_below n (λ k. keep (eqb (σ i) k) (f k))) (λ i l. sym (at n (σ i) f (w.there i l)))
    ∙ swap n n (λ i k. keep (eqb (σ i) k) (f k))
    ∙ ext n (λ k. xor_below n (λ i. keep (eqb (σ i) k) (f k))) f (λ k l.
    one n (τ k) (λ i. eqb (σ i) k) (λ i. f k) (w.back k l) (eq-eqb (σ (τ k)) k (w.right k l))
    (λ i q e. sym (w.left i q) ∙ ap τ (eqb-true (σ i) k e)))

-- a sum of bytes is a byte
pub bytes : (n : ℕ) (f : ℕ → ℕ) → ((i : ℕ) → i < n → f i < 256) → xor_below n f < 256
unfolding xor_below
bytes zero f h = zero-lt-suc 255
bytes (suc n) f h = byte (xor_below n f) (f n) (bytes n f (λ i l. h i (le_step l))) (h n (lt-suc_self n))

-- an odd number of equal terms
pub odd : (p b : ℕ) (f : ℕ → ℕ) → p % 2 ≡ 1 → ((i : ℕ) → i < p → f i ≡ b) → xor_below p f ≡ b
unfolding xor_below
odd zero b f e h = omega arith
odd (suc zero) b f e h = rw (h 0 (zero-lt-suc 0), zero_l)
odd (suc (suc p)) b f e h =
    rw (h p (le_step (lt-suc_self p)), h (suc p) (lt-suc_self (suc p)), odd p b f (omega arith) (λ i l. h i (le_step (le_step l))))
    (simp xors)
