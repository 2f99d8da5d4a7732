-- How many changes in a column with a row settle the sums, at any slope: where the powers reach all the two sums through the crossing
-- decide, and where they do not the classes do. Assumes nothing.
use Rattle.std.specs.Prelude.{◌≡◌, refl, ◌≢◌, ℕ, ◌-◌, ◌<◌, Result, Ok, Err}
use Rattle.std.proofs.Common.{inl, inr, arith}
use Rattle.residue.specs.Power.{ReachesAll}
use Rattle.residue.specs.Order.{Order, order_reaches}
use Rattle.code.specs.Slope.{Slope, slope_pos, slope_inverse}
use Rattle.code.specs.Tile.{Cells, line}
use Rattle.code.specs.Sums.{Padded}
use Rattle.code.specs.Settle.{Settles}
use Rattle.code.specs.Pair.{ZeroOffBoth, pair_crossing}
use Rattle.code.specs.Classes.{ClassesAgree, classes_settled, settles_classes}
use Rattle.code.specs.Fillings.{Sure}
use Rattle.code.specs.declared.Line.{Line}
use Rattle.code.specs.declared.Line.TheVariants.{Row, Column}
use Rattle.size.specs.declared.Unclear.{Unclear}
use Rattle.size.specs.declared.Unclear.TheVariants as unclear

-- some change in the lines a and b settles the sums
pub record SettledSome (p l : ℕ) (a b : Line) (A B : ℕ → ℕ) : Type 0 where
  pub by : Cells
  pub settles : Settles p l A B by
  pub padded : Padded p by
  pub off : ZeroOffBoth p a b by

-- whether there is one in column t with row s, and no other. Where it is, the slope reaches all, and the two sums through the crossing agree
pub data CrossedMany (p l t s : ℕ) (A B : ℕ → ℕ) : Result Unit Unclear → Type 0 where
  no_crossed : (SettledSome p l (Column t) (Row s) A B → ⊥) → CrossedMany p l t s A B (Err unclear.Damaged)
  one_crossed : ReachesAll p l → A (line p 1 s t) ≡ B (line p l s t) → CrossedMany p l t s A B (Ok tt)
  several_crossed : (Sure p l (Column t) (Row s) → ⊥) → SettledSome p l (Column t) (Row s) A B → CrossedMany p l t s A B (Err unclear.Doubtful)

-- ---- which it is

-- a column with a row is not sure where the order of the slope is not p - 1
pub missing : (p l n t s : ℕ) → Slope p l → Order p l n → n ≢ p - 1 → Sure p l (Column t) (Row s) → ⊥
missing p l n t s S O d (inl side) = elim side [ ]
missing p l n t s S O d (inr all) = d ((order_reaches p l S.prime (slope_pos p l S) n O).1 all)

module _ (p l : ℕ) (A B : ℕ → ℕ) (S : Slope p l) where
  -- where the sums through the crossing do not agree, there is no change
  pub crossed_no : (t s : ℕ) → s < p - 1 → t < p - 1 → (A (line p 1 s t) ≡ B (line p l s t) → ⊥) → SettledSome p l (Column t) (Row s) A B → ⊥
  crossed_no t s hs ht d c =
      let m = slope_inverse p l S in d (pair_crossing p l m.0 m.1 A B t (omega arith) (Row s) (omega arith) c.by c.settles c.off t (omega arith) refl)

  -- where the powers miss a remainder, there are several where the sums agree over each class, and none where they do not
  module _ (n t s : ℕ) (O : Order p l n) (hs : s < p - 1) (ht : t < p - 1) where
    pub classes_some : ClassesAgree p l n A B s t → SettledSome p l (Column t) (Row s) A B
    classes_some c = let q = classes_settled p l n s t A B S O hs ht c in record { by = q.by; settles = q.settles; padded = q.padded; off = q.off }

    pub classes_none : (ClassesAgree p l n A B s t → ⊥) → SettledSome p l (Column t) (Row s) A B → ⊥
    classes_none d c = d (settles_classes p l n s t A B c.by S O (omega arith) (omega arith) c.settles c.off)
