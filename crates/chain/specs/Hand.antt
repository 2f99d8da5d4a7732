-- The two functions that call each other along the hops: what they have filled. Assumes nothing.
use Rattle.std.specs.Prelude.{◌≡◌, refl, ◌≢◌, ◌⊎◌, List, ℕ, ◌+◌, ◌-◌, ◌*◌, ◌%◌, ◌≤◌, ◌<◌, length, set}
use Rattle.std.proofs.Common.{sym, ap, ap₂, ◌∙◌, inl, inr, mod-lt, eq-or-lt_of_le, arith, get_or-set_same, get_or-set_other}
use Rattle.std.proofs.Math.Nat.{mod-mod, mod-add-mod}
use Rattle.std.specs.Int.Bits.{bit_xor}
use Rattle.xor.specs.Xor.{◌⊕◌, ⊕_is}
use Rattle.residue.specs.Remainder.{same, same_step, before, before_lt, before_step, step_before}
use Rattle.code.specs.Tile.{line}
use Rattle.code.specs.OneLine.{number, through}
use Rattle.code.specs.Pair.{Hops}
use Rattle.code.specs.declared.Line.{Line}
use Rattle.code.specs.declared.Line.TheVariants.{Row, Column}
use Rattle.code.specs.Held.{held}
use Rattle.walk.specs.Fill.{from_number, through_once}

-- the numbers by which the chain finds its way, and a place in one of the two lines
pub record Places (p c n base weight back place : ℕ) : Type 0 where
  pub high : p ≤ 257
  pub column : c < p
  pub line : n < p
  pub base_lt : base < p
  pub weight_lt : weight < p
  pub back_lt : back < p
  pub at : place < p

-- how far the slope-l lines through two neighbours in the line b are from each other
abbrev pub weight_of : ℕ → Line → ℕ
weight_of l (Row s) = l
weight_of l (Column v) = 1

-- it is below p, as the slope is
pub weight_most : (p l : ℕ) (b : Line) → l < p → 1 < p → weight_of l b < p
weight_most p l (Row s) h k = h
weight_most p l (Column v) h k = k

-- the numbers are those of column c and the line b at slope l
pub record Leads (p l c : ℕ) (b : Line) (n base weight back : ℕ) : Type 0 where
  pub line : n ≡ number b
  pub there : (k : ℕ) → (base + weight * k) % p ≡ through p l b k
  pub returns : back ≡ l * c % p

-- from x and y to x' and y' the chain has filled the column's symbols after hop k and the second line's from hop k' on, each from the one
-- before it, and nothing else
pub record Onward (p l c : ℕ) (A B : ℕ → ℕ) (n : ℕ) (walk stop : ℕ → ℕ) (k k' : ℕ) (x y x' y' : ℕ → ℕ) : Type 0 where
  pub to_line : (h : ℕ) → k' ≤ h → h < n → y' (stop h) ≡ A (line p 1 (walk h) c) ⊕ x' (walk h)
  pub to_column : (h : ℕ) → k ≤ h → h + 1 < n → x' (walk (h + 1)) ≡ B (line p l (walk (h + 1)) c) ⊕ y' (stop h)
  pub line_kept : (j : ℕ) → ((h : ℕ) → k' ≤ h → h < n → stop h ≢ j) → y' j ≡ y j
  pub column_kept : (i : ℕ) → ((h : ℕ) → k < h → h < n → walk h ≢ i) → x' i ≡ x i

-- from cell i of the column on, with so many symbols unfilled, whatever lines and hops these are
abbrev pub FromColumn : ℕ → ℕ → ℕ → ℕ → ℕ → ℕ → (ℕ → ℕ) → (ℕ → ℕ) → ℕ → ℕ → (ℕ → ℕ) → (ℕ → ℕ) → (ℕ → ℕ) → (ℕ → ℕ) → Type 0
FromColumn p c n base weight back A B i unfilled x y x' y' =
    (l : ℕ) (b : Line) → Leads p l c b n base weight back
    → (m : ℕ) (walk stop : ℕ → ℕ) (k : ℕ) → Hops p l c b m walk stop → walk k ≡ i → unfilled + 2 * k + 1 ≡ 2 * m → Onward p l c A B m walk stop k k x y x' y'

-- from cell j of the second line on
abbrev pub FromLine : ℕ → ℕ → ℕ → ℕ → ℕ → ℕ → (ℕ → ℕ) → (ℕ → ℕ) → ℕ → ℕ → (ℕ → ℕ) → (ℕ → ℕ) → (ℕ → ℕ) → (ℕ → ℕ) → Type 0
FromLine p c n base weight back A B j unfilled x y x' y' =
    (l : ℕ) (b : Line) → Leads p l c b n base weight back
    → (m : ℕ) (walk stop : ℕ → ℕ) (k : ℕ) → Hops p l c b m walk stop → stop k ≡ j → unfilled + 2 * k + 2 ≡ 2 * m → Onward p l c A B m walk stop k (k + 1) x y x' y'

-- ---- the places that the two functions find are those of the hops

module _ (p l c : ℕ) (b : Line) (n : ℕ) (walk stop : ℕ → ℕ) (hops : Hops p l c b n walk stop) (some : 0 < p) where
  -- the cell of the second line on the slope-1 line through the k-th cell of the column
  there : (k : ℕ) → before p (number b) ((walk k + c) % p) ≡ stop k
  there k =
      through_once p b _ _ (before_lt p (number b) _ some) (hops.cell k)
      (sym (from_number p b _) ∙ same p (omega arith) ∙ before_step p (number b) ((walk k + c) % p) (mod-lt _ some) ∙ same p (omega arith) ∙ sym (hops.first k))

  -- the cell of the column on the slope-l line through the k-th stop
  back_to : (k : ℕ) → before p (l * c) (through p l b (stop k)) ≡ walk (k + 1)
  back_to k = ap (before p (l * c)) (hops.second k) ∙ step_before p (l * c) (walk (k + 1)) (hops.row (k + 1))

  -- no two stops are the same
  stops_once : (j k : ℕ) → j < k → k < n → stop j ≢ stop k
  stops_once j k jk kn e =
      hops.round.once j k jk kn
      (same_step p (1 * c) (walk j) (walk k) (hops.row j) (hops.row k) (sym (hops.first j) ∙ ap (through p 1 b) e ∙ hops.first k))

  module _ (A B : ℕ → ℕ) (k : ℕ) (x y x' y' : ℕ → ℕ) where
    -- the last symbol is filled: nothing is left to do
    all_filled : k + 1 ≡ n → Onward p l c A B n walk stop k (k + 1) x y x y
    all_filled e = record {
      to_line = λ h q lt. omega arith;
      to_column = λ h q lt. omega arith;
      line_kept = λ j d. refl;
      column_kept = λ i d. refl;
    }

    -- a symbol of the second line, and what follows it
    line_filled : (y₁ : ℕ → ℕ) → k < n → y₁ (stop k) ≡ A (line p 1 (walk k) c) ⊕ x (walk k) → ((j : ℕ) → j ≢ stop k → y₁ j ≡ y j)
        → Onward p l c A B n walk stop k (k + 1) x y₁ x' y' → Onward p l c A B n walk stop k k x y x' y'
    line_filled y₁ lt new old o = record {
      to_line = λ h q m. at h q m (eq-or-lt_of_le q);
      to_column = o.to_column;
      line_kept = λ j d. o.line_kept j (λ h q m. d h (omega arith) m) ∙ old j (λ e. d k (omega arith) lt (sym e));
      column_kept = o.column_kept;
    }
      where
        at : (h : ℕ) → k ≤ h → h < n → (k ≡ h) ⊎ (k < h) → y' (stop h) ≡ A (line p 1 (walk h) c) ⊕ x' (walk h)
        at h q m (inl e) = rw (sym e)
            (o.line_kept (stop k) (λ i r s f. stops_once k i (omega arith) s (sym f)) ∙ new
            ∙ ap (λ (z : ℕ). A (line p 1 (walk k) c) ⊕ z) (sym (o.column_kept (walk k) (λ i r s f. hops.round.once k i r s (sym f)))))
        at h q m (inr r) = o.to_line h (omega arith) m

    -- a symbol of the column, and what follows it
    column_filled : (x₁ : ℕ → ℕ) → k + 1 < n → x₁ (walk (k + 1)) ≡ B (line p l (walk (k + 1)) c) ⊕ y (stop k)
        → ((i : ℕ) → i ≢ walk (k + 1) → x₁ i ≡ x i)
        → Onward p l c A B n walk stop (k + 1) (k + 1) x₁ y x' y' → Onward p l c A B n walk stop k (k + 1) x y x' y'
    column_filled x₁ lt new old o = record {
      to_line = o.to_line;
      to_column = λ h q m. at h q m (eq-or-lt_of_le q);
      line_kept = o.line_kept;
      column_kept = λ i d. o.column_kept i (λ h q m. d h (omega arith) m) ∙ old i (λ e. d (k + 1) (omega arith) lt (sym e));
    }
      where
        at : (h : ℕ) → k ≤ h → h + 1 < n → (k ≡ h) ⊎ (k < h) → x' (walk (h + 1)) ≡ B (line p l (walk (h + 1)) c) ⊕ y' (stop h)
        at h q m (inl e) = rw (sym e)
            (o.column_kept (walk (k + 1)) (λ i r s f. hops.round.once (k + 1) i r s (sym f)) ∙ new
            ∙ ap (λ (z : ℕ). B (line p l (walk (k + 1)) c) ⊕ z) (sym (o.line_kept (stop k) (λ i r s f. stops_once k i (omega arith) s (sym f)))))
        at h q m (inr r) = o.to_column h (omega arith) m

-- ---- a turn of each function

-- out[k] = v, as seen at another place and at k
stored : (out : List ℕ) (k v m : ℕ) → k < length out → m ≡ k → held (set out k v) m ≡ v
stored out k v m h e = rw e (get_or-set_same out k v 0 h)

module _ (p c n base weight back : ℕ) (A B : ℕ → ℕ) (unfilled : ℕ) (x' y' : ℕ → ℕ) (some : 0 < p) where
  -- nothing is unfilled
  pub no_line : (i : ℕ) (x y : ℕ → ℕ) → unfilled ≡ 0 → FromColumn p c n base weight back A B i unfilled x y x y
  no_line i x y z l b leads m walk stop k hops e q = omega arith

  pub no_column : (j : ℕ) (x y : ℕ → ℕ) → unfilled ≡ 0 → FromLine p c n base weight back A B j unfilled x y x y
  no_column j x y z l b leads m walk stop k hops e q = all_filled p l c b m walk stop hops some A B k x y x y (omega arith)

  -- cell i of the column gives cell j of the second line
  pub line_turn : (x : ℕ → ℕ) (y : List ℕ) (i j t : ℕ) → (unfilled ≡ 0 → ⊥) → t ≡ (i + c) % p → j ≡ before p n t → j < length y
      → FromLine p c n base weight back A B j (unfilled - 1) x (held (set y j (bit_xor (A t) (x i)))) x' y'
      → FromColumn p c n base weight back A B i unfilled x (held y) x' y'
  line_turn x y i j t more et ej lt o l b leads m walk stop k hops e q =
      line_filled p l c b m walk stop hops some A B k x (held y) x' y' (held (set y j (bit_xor (A t) (x i)))) (omega arith)
      (stored y j _ (stop k) lt (sym at) ∙ ⊕_is (A t) (x i) ∙ ap₂ ◌⊕◌ (ap A (et ∙ ap (λ (w : ℕ). (w + c) % p) (sym e) ∙ same p (omega arith))) (ap x (sym e)))
      (λ w d. get_or-set_other y j w _ 0 (λ f. d (f ∙ at)))
      (o l b leads m walk stop k hops (sym at) (omega arith))
    where
      at : j ≡ stop k
      at =
          ej ∙ ap (λ (w : ℕ). before p w t) leads.line ∙ ap (before p (number b)) (et ∙ ap (λ (w : ℕ). (w + c) % p) (sym e))
          ∙ there p l c b m walk stop hops some k

  -- cell j of the second line gives cell i of the column
  pub column_turn : (x : List ℕ) (y : ℕ → ℕ) (i j t : ℕ) → (unfilled ≡ 0 → ⊥) → t ≡ (base + weight * j) % p → i ≡ before p back t → i < length x
      → FromColumn p c n base weight back A B i (unfilled - 1) (held (set x i (bit_xor (B t) (y j)))) y x' y'
      → FromLine p c n base weight back A B j unfilled (held x) y x' y'
  column_turn x y i j t more et ei lt o l b leads m walk stop k hops e q =
      column_filled p l c b m walk stop hops some A B k (held x) y x' y' (held (set x i (bit_xor (B t) (y j)))) (omega arith)
      (stored x i _ (walk (k + 1)) lt (sym at) ∙ ⊕_is (B t) (y j) ∙ ap₂ ◌⊕◌ (ap B (is ∙ hops.second k)) (ap y (sym e)))
      (λ w d. get_or-set_other x i w _ 0 (λ f. d (f ∙ at)))
      (o l b leads m walk stop (k + 1) hops (sym at) (omega arith))
    where
      is : t ≡ through p l b (stop k)
      is = et ∙ leads.there j ∙ ap (through p l b) (sym e)

      at : i ≡ walk (k + 1)
      at =
          ei ∙ ap (λ (w : ℕ). (t + (p - w)) % p) (ap (λ (w : ℕ). w % p) leads.returns ∙ mod-mod (l * c) p) ∙ ap (before p (l * c)) is
          ∙ back_to p l c b m walk stop hops some k

-- the numbers that the chain starts with
pub leads : (p l c : ℕ) (b : Line) → Leads p l c b (number b) (through p l b 0) (weight_of l b) (l * c % p)
leads p l c b = record { line = refl; there = there_by b; returns = refl }
  where
    there_by : (b : Line) (k : ℕ) → (through p l b 0 + weight_of l b * k) % p ≡ through p l b k
    there_by (Row s) k = mod-add-mod (s + l * 0) p (l * k) ∙ same p (omega arith)
    there_by (Column v) k = mod-add-mod (0 + l * v) p (1 * k) ∙ same p (omega arith)
