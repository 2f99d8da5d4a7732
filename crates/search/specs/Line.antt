-- The search for a line along which the sums of both slopes agree. Rows and columns are searched alike. Assumes nothing.
use Rattle.std.specs.Prelude.{◌≡◌, ℕ, ◌+◌, ◌-◌, ◌*◌, ◌%◌, ◌<◌, Option, MatchOption}
use Rattle.std.proofs.Common.{sym, ap, ◌∙◌, mod-lt, arith, below_more}
use Rattle.std.proofs.Math.Nat.{mod-add-mod}
use Rattle.xor.specs.Xor.{◌⊕◌}
use Rattle.residue.specs.Remainder.{same, alike, mul_mod_mod, add_alike, mul_alike, undo, before, before_lt, before_step}
use Rattle.code.specs.OneLine.{number, through, Agree}
use Rattle.code.specs.Turn.{turned_line}
use Rattle.code.specs.declared.Line.{Line}
use Rattle.code.specs.declared.Line.TheVariants.{Row, Column}
use Rattle.walk.specs.Sums.{Stepped}
use Rattle.walk.specs.Fill.{from_number}
use Rattle.walk.specs.Along.{Changed, Shifted}

-- where the sum of the second slope stands that belongs to the slope-1 line t along line n
abbrev pub place_of : ℕ → ℕ → ℕ → ℕ → ℕ → ℕ
place_of p shift weight n t = (weight * t + shift * n) % p

-- the sums A of slope 1 and S of the second slope agree along line n
abbrev pub Fits : ℕ → ℕ → ℕ → (ℕ → ℕ) → (ℕ → ℕ) → ℕ → Type 0
Fits p shift weight A S n = (t : ℕ) → t < p → S (place_of p shift weight n t) ≡ A t

-- n is a line along which they agree, if there is one
abbrev pub Searched : ℕ → ℕ → ℕ → (ℕ → ℕ) → (ℕ → ℕ) → Option ℕ → Type 0
Searched p shift weight A S n =
    MatchOption n ((k : ℕ) → k < p - 1 → Fits p shift weight A S k → ⊥) (λ k. (k < p - 1) × Fits p shift weight A S k)

-- ---- the loops

-- they agree at the k slope-1 lines from `begin` on
abbrev pub FitsSoFar : ℕ → ℕ → ℕ → ℕ → (ℕ → ℕ) → (ℕ → ℕ) → ℕ → ℕ → Type 0
FitsSoFar p shift weight begin A S n k = (j : ℕ) → j < k → S (place_of p shift weight n ((begin + 1 * j) % p)) ≡ A ((begin + 1 * j) % p)

-- and at one more
pub fits_more : (p shift weight begin : ℕ) (A S : ℕ → ℕ) (n k t u : ℕ) → t ≡ (begin + 1 * k) % p → u ≡ place_of p shift weight n t → S u ≡ A t
    → FitsSoFar p shift weight begin A S n k → FitsSoFar p shift weight begin A S n (k + 1)
fits_more p shift weight begin A S n k t u e place here so =
    below_more _ _ so (ap (λ (x : ℕ). S (place_of p shift weight n x)) (sym e) ∙ ap S (sym place) ∙ here ∙ ap A e)

-- where they do not agree at one, they do not along the line
pub not_fits : (p shift weight : ℕ) (A S : ℕ → ℕ) (n t u : ℕ) → t < p → u ≡ place_of p shift weight n t → (S u ≡ A t → ⊥) → Fits p shift weight A S n → ⊥
not_fits p shift weight A S n t u h place d fits = d (ap S place ∙ fits t h)

-- p lines from any on are all
pub fits_all : (p shift weight begin : ℕ) (A S : ℕ → ℕ) (n : ℕ) → FitsSoFar p shift weight begin A S n p → Fits p shift weight A S n
fits_all p shift weight begin A S n so t h =
    rw (same p {a = begin + 1 * before p begin t} {b = before p begin t + begin} (omega arith) ∙ before_step p begin t h) at
    (so (before p begin t) (before_lt p begin t (omega arith)))

-- the place at the next slope-1 line
pub place_next : (p shift weight n t t' u r : ℕ) → u ≡ place_of p shift weight n t → Stepped p t 1 t' → Stepped p u weight r
    → r ≡ place_of p shift weight n t'
place_next p shift weight n t t' u r e ht hu =
    hu.is ∙ ap (λ (x : ℕ). (x + weight) % p) e ∙ mod-add-mod (weight * t + shift * n) p weight ∙ same p (omega arith)
    ∙ add_alike p (weight * (t + 1)) (weight * t') (shift * n) (sym (mul_mod_mod p weight (t + 1)) ∙ same p (ap (λ (x : ℕ). weight * x) (sym ht.is)))
    ∙ same p (omega arith)

-- ---- what the search tells of a line

-- along a row of the turned tile's sums the places are next to each other, along a column m from each other; the first of line n is so
-- many times n
abbrev pub weight_of : ℕ → Line → ℕ
weight_of m (Row r) = 1
weight_of m (Column c) = m

abbrev pub back_of : ℕ → Line → ℕ
back_of m (Row r) = m
back_of m (Column c) = 1

-- so with this shift they go from line to line
abbrev pub shift_of : ℕ → ℕ → Line → ℕ
shift_of p m (Row r) = m - 1
shift_of p m (Column c) = p + 1 - m

shift_back : (p m : ℕ) (a : Line) → 0 < m → m < p → (shift_of p m a + weight_of m a) % p ≡ back_of m a % p
shift_back p m (Row r) h lt = same p (omega arith)
shift_back p m (Column c) h lt = alike p _ 1 0 1 (omega arith)

-- the place of the k-th sum along a line
abbrev pub kth : ℕ → ℕ → Line → ℕ → ℕ
kth p m a k = (back_of m a * number a + weight_of m a * k) % p

-- what the search looks for along a line
abbrev pub FitsAlong : ℕ → ℕ → (ℕ → ℕ) → (ℕ → ℕ) → Line → Type 0
FitsAlong p m A S a = Fits p (shift_of p m a) (weight_of m a) A S (number a)

-- there is the sum of the slope-l line through its k-th cell
kth_through : (p l m : ℕ) (a : Line) (k : ℕ) → l * m % p ≡ 1 → l * kth p m a k % p ≡ through p l a k
kth_through p l m (Row r) k inverse = same p (ap (λ (x : ℕ). l * x) (same p (omega arith))) ∙ turned_line p l m inverse k r
kth_through p l m (Column c) k inverse = same p (ap (λ (x : ℕ). l * x) (same p (omega arith))) ∙ turned_line p l m inverse c k

module _ (p l m : ℕ) (a : Line) (A B S : ℕ → ℕ) (inverse : l * m % p ≡ 1) (turned : (v : ℕ) → v < p → S v ≡ B (l * v % p)) where
  -- the sum at that place
  kth_sum : (k : ℕ) → k < p → S (kth p m a k) ≡ B (through p l a k)
  kth_sum k h = turned (kth p m a k) (mod-lt _ (omega arith)) ∙ ap B (kth_through p l m a k inverse)

  -- so a line's change is taken from the sums along it, if they agree
  pub change_of : (start : ℕ) (x : ℕ → ℕ) → Agree p l A B a → start % p ≡ back_of m a * number a % p → Changed p start (weight_of m a) S x → Shifted p A a x
  change_of start x g e h k q =
      h k q ∙ ap (λ (y : ℕ). y ⊕ S ((start + weight_of m a * (p - 1)) % p)) (at k q) ∙ ap (λ (y : ℕ). A (through p 1 a k) ⊕ y) (at (p - 1) (omega arith))
    where
      at : (k : ℕ) → k < p → S ((start + weight_of m a * k) % p) ≡ A (through p 1 a k)
      at k q = ap S (add_alike p start (back_of m a * number a) (weight_of m a * k) e) ∙ kth_sum k q ∙ sym (g k q)

  -- the slope-1 line through the k-th cell belongs with the k-th sum
  place_kth : 0 < m → m < p → (k : ℕ) → place_of p (shift_of p m a) (weight_of m a) (number a) (through p 1 a k) ≡ kth p m a k
  place_kth pos lt k =
      let shift = shift_of p m a in
      let weight = weight_of m a in
      add_alike p (weight * through p 1 a k) (weight * (number a + k)) (shift * number a)
      (same p (ap (λ (x : ℕ). weight * x) (sym (from_number p a k))) ∙ mul_mod_mod p weight (number a + 1 * k) ∙ same p (omega arith))
      ∙ same p (omega arith)
      ∙ add_alike p ((shift + weight) * number a) (back_of m a * number a) (weight * k) (mul_alike p _ _ (number a) (shift_back p m a pos lt))

  -- so the search tells of a line exactly whether the sums agree along it
  pub fits_agree : 0 < m → m < p → FitsAlong p m A S a → Agree p l A B a
  fits_agree pos lt f k h =
      sym (f (through p 1 a k) (rw (sym (from_number p a k)) (mod-lt _ (omega arith)))) ∙ ap S (place_kth pos lt k) ∙ kth_sum k h

  pub agree_fits : 0 < m → m < p → Agree p l A B a → FitsAlong p m A S a
  agree_fits pos lt g t h =
      let k = before p (number a) t in
      let low : k < p = before_lt p (number a) t (omega arith) in
      let is : through p 1 a k ≡ t = sym (from_number p a k) ∙ same p (omega arith) ∙ before_step p (number a) t h in
      rw is at (ap S (place_kth pos lt k) ∙ kth_sum k low ∙ sym (g k low))

-- each slope-l line meets a line
pub meets : (p l m : ℕ) (a : Line) → l * m % p ≡ 1 → (u : ℕ) → u < p → (k : ℕ) × (k < p) × (through p l a k ≡ u)
meets p l m (Column c) inverse u h = (before p (l * c) u, before_lt p (l * c) u (omega arith), before_step p (l * c) u h)
meets p l m (Row r) inverse u h =
    let b = before p r u in (
      m * b % p,
      mod-lt (m * b) (omega arith),
      same p (omega arith) ∙ add_alike p (l * (m * b % p)) b r (mul_mod_mod p l (m * b) ∙ same p (omega arith) ∙ undo p l m b inverse) ∙ before_step p r u h,
    )
