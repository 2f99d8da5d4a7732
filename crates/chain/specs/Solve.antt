-- Changes in two lines that settle sums, as arrays hold them. Assumes nothing.
use Rattle.std.specs.Prelude.{◌≡◌, ℕ, ◌+◌, ◌-◌, ◌*◌, ◌%◌, ◌≤◌, ◌<◌, Result, Ok, Err}
use Rattle.std.proofs.Common.{sym, ap, ap₂, ◌∙◌, arith}
use Rattle.std.proofs.Math.Decide.{ℕ_discrete}
use Rattle.xor.specs.Xor.{◌⊕◌, xors, self, zero_r}
use Rattle.code.specs.Slope.{Slope, slope_inverse}
use Rattle.code.specs.Tile.{line}
use Rattle.code.specs.Sums.{plus}
use Rattle.code.specs.Settle.{Settles, settles_ext}
use Rattle.code.specs.OneLine.{number, row_at, column_at, through, along, shifted, along_ext}
use Rattle.code.specs.Pair.{Hops, left, change, left_crossing, first_left}
use Rattle.code.specs.Existence.{Closing, by_chain}
use Rattle.code.specs.Fillings.{Sure}
use Rattle.code.specs.declared.Line.{Line}
use Rattle.code.specs.declared.Line.TheVariants.{Row, Column}
use Rattle.walk.specs.Fill.{through_once}
use Rattle.walk.specs.Along.{Along, TakenOff}
use Rattle.classes.specs.Many.{SettledSome}
use Rattle.size.specs.declared.Unclear.{Unclear}
use Rattle.size.specs.declared.Unclear.TheVariants as unclear
use Rattle.chain.specs.Hand.{Onward, weight_of, leads, FromColumn}

-- x in the line a and y in the line b settle the sums A and B, and are 0 where the lines meet the added zeros
pub record SettledBy (p l : ℕ) (a b : Line) (A B x y : ℕ → ℕ) : Type 0 where
  pub settles : Settles p l A B (plus (along a x) (along b y))
  pub first : x (p - 1) ≡ 0
  pub second : y (p - 1) ≡ 0

-- whether one change in the lines a and b settles the sums. Where it does, x and y are it, and the lines are sure; where not, there is none, or
-- there are several
pub data Solved (p l : ℕ) (a b : Line) (A B x y : ℕ → ℕ) : Result Unit Unclear → Type 0 where
  none : (SettledSome p l a b A B → ⊥) → Solved p l a b A B x y (Err unclear.Damaged)
  one : Sure p l a b → SettledBy p l a b A B x y → Solved p l a b A B x y (Ok tt)
  several : (Sure p l a b → ⊥) → SettledSome p l a b A B → Solved p l a b A B x y (Err unclear.Doubtful)

-- how many hops there are between a column and the line b
abbrev pub hops_of : ℕ → Line → ℕ
hops_of p (Row s) = p - 1
hops_of p (Column v) = p

-- at most one for each row
pub hops_most : (p : ℕ) (b : Line) → hops_of p b ≤ p
hops_most p (Row s) = omega arith
hops_most p (Column v) = omega arith

-- some chain of hops between column c and the line b closes
pub record Closes (p l c : ℕ) (b : Line) (A B : ℕ → ℕ) : Type 0 where
  pub walk : ℕ → ℕ
  pub stop : ℕ → ℕ
  pub closing : Closing p l c b A B (hops_of p b) walk stop

-- ---- the chain settles the sums

-- what the chain has filled, from zeros in the column and the sums along the second line, settles the sums once the common byte is taken off
pub chain_settled : (p l c : ℕ) (b : Line) (A B x y x' y' w : ℕ → ℕ) → Slope p l → Closes p l c b A B → c < p → number b < p
    → ((k : ℕ) → x k ≡ 0) → Along p A b y → FromColumn p c (number b) (through p l b 0) (weight_of l b) (l * c % p) A B (p - 1) (2 * hops_of p b - 1) x y x' y' → TakenOff p y' w
    → SettledBy p l (Column c) b A B x' w
chain_settled p l c b A B x y x' y' w S closes hc hb zero sums filled off = record {
  settles =
      settles_ext p l A B (change p A c b x') (plus (along (Column c) x') (along b w))
      (λ i j hi hj. ap (λ (z : ℕ). along (Column c) x' i j ⊕ z) (along_ext p b (shifted p (left p 1 A c x') b) w (λ k h. sym (on_line k h)) i j hi hj))
      (by_chain p l c b A B n walk stop S closes.closing x' hc hb start
      (λ k h. o.to_column k (omega arith) h ∙ ap (λ (z : ℕ). B (line p l (walk (k + 1)) c) ⊕ z) (o.to_line k (omega arith) (omega arith)) ∙ simp xors));
  first = start;
  second = off (p - 1) (omega arith) ∙ self _;
}
  where
    n : ℕ
    n = hops_of p b

    walk : ℕ → ℕ
    walk = closes.walk

    stop : ℕ → ℕ
    stop = closes.stop

    hops : Hops p l c b n walk stop
    hops = closes.closing.hops

    o : Onward p l c A B n walk stop 0 0 x y x' y'
    o = filled l b (leads p l c b) n walk stop 0 hops hops.start (omega (arith, hops.round.some))

    start : x' (p - 1) ≡ 0
    start = o.column_kept (p - 1) (λ h q m e. hops.round.once 0 h q m (hops.start ∙ sym e)) ∙ zero (p - 1)

    -- where the second line crosses the column, the column's change is 0
    in_crossing : (j : ℕ) → j < p → column_at b j ≡ c → x' (row_at b j) ≡ 0
    in_crossing j hj e = o.column_kept (row_at b j) (λ h q m f. hops.clear h
        (ap (column_at b) (through_once p b (stop h) j (hops.cell h) hj (hops.first h ∙ ap₂ (line p 1) f (sym e))) ∙ e)) ∙ zero (row_at b j)

    inverse : (m : ℕ) × (l * m % p ≡ 1) × Slope p m
    inverse = slope_inverse p l S

    -- the second line holds the sums that the column leaves
    leaves : (j : ℕ) → j < p → y' j ≡ left p 1 A c x' (through p 1 b j)
    leaves j hj = go (ℕ_discrete (column_at b j) c)
      where
        go : Dec (column_at b j ≡ c) → y' j ≡ left p 1 A c x' (through p 1 b j)
        go (yes e) =
            o.line_kept j (λ h q m f. hops.clear h (ap (column_at b) f ∙ e)) ∙ sums j hj
            ∙ sym (left_crossing p l inverse.0 inverse.1 A B c hc b hb 1 A x' j hj e ∙ ap (λ (z : ℕ). A (through p 1 b j) ⊕ z) (in_crossing j hj e) ∙ zero_r _)
        go (no d) =
            let t = hops.stops j hj d in
            rw t.2 at (o.to_line t.0 (omega arith) t.1 ∙ sym (first_left p l inverse.0 inverse.1 A B c hc b hb n walk stop hops x' t.0))

    on_line : (k : ℕ) → k < p → w k ≡ shifted p (left p 1 A c x') b k
    on_line k h = off k h ∙ ap₂ ◌⊕◌ (leaves k h) (leaves (p - 1) (omega arith))
