-- A hurt row s with a hurt column t, for any slope. Counted from the crossing, the hops go from the offset o to l o, so they stay in the
-- class of o: o, l o, l² o, .. up to where they come back to o, which takes as many steps as the order n of l says. Where the powers of l
-- reach all there is one class, and this is the paper's chain (`Crossed`). In general a value is handed on in each class by itself, so
-- the sums are settled exactly if, over each class, the sums through the row's cells add up to zero. Assumes nothing.
use Rattle.std.specs.Prelude.{◌≡◌, refl, ◌⊎◌, not, eqb}
use Rattle.std.proofs.Common.{sym, ap₂, ◌∙◌, inl, inr, mod-lt, mod-eq_of_lt, add_comm, eq-zero-or-pos, mul-zero, add-one}
use Rattle.std.proofs.Math.Path.{ap}
use Prim.Native.Nat.{ℕ, zero, suc, ◌+◌, ◌-◌, ◌*◌, ◌%◌, ◌<◌}
use Rattle.std.proofs.Math.Nat.{mod-add-mod, add-mod-mod, zero-mod}
use native.Mathlib.Omega.{arith}
use Rattle.xor.specs.Xor.{◌⊕◌, xors, self, byte, from₂, eq_of_zero}
use Rattle.xor.specs.Sum.{xor_below, none, more, count, keep, ext}
use Rattle.residue.specs.Remainder.{same, mul_mod_mod, before, before_lt, before_step, step_before, below_pos}
use Rattle.residue.specs.Prime.{Prime}
use Rattle.residue.specs.Power.{spun, spun_next}
use Rattle.residue.specs.Search.{First, first, first_same}
use Rattle.residue.specs.Order.{Order, InClass, class_once, class_closes, class_next, class_before, class_own, in_class, product_pos}
use Rattle.code.specs.Slope.{Slope, slope_pos, slope_inverse}
use Rattle.code.specs.Tile.{Cells, line, sum}
use Rattle.code.specs.Sums.{sum_column}
use Rattle.code.specs.Settle.{Settles, settles_plus}
use Rattle.code.specs.OneLine.{Agree, shifted, along, along_off, along_nth, one_line_settles}
use Rattle.code.specs.Chain.{Round, handed, handed_chain, handed_byte}
use Rattle.code.specs.Pair.{ZeroOffBoth, left, change, pair_agrees, change_padded, change_off, change_byte}
use Rattle.code.specs.Existence.{Settled}
use Rattle.code.specs.declared.Line.TheVariants.{Row, Column}

-- ---- a value handed on within each class

-- what is handed on from term to term, first and last
telescope : (n : ℕ) (y : ℕ → ℕ) → xor_below n (λ k. y k ⊕ y (k + 1)) ≡ y 0 ⊕ y n
telescope zero y = none _ ∙ sym (self (y 0))
telescope (suc n) y =
    count (suc n) (n + 1) _ (sym (add-one n)) ∙ more n _ ∙ ap (λ (z : ℕ). z ⊕ (y n ⊕ y (n + 1))) (telescope n y)
    ∙ ap (λ (i : ℕ). y 0 ⊕ y n ⊕ (y n ⊕ y i)) (add-one n) ∙ simp xors

-- q is in the class of o + 1
abbrev Leads : ℕ → ℕ → ℕ → ℕ → ℕ → Type 0
Leads p l n q o = InClass p l n (suc o) q

abbrev Led : ℕ → ℕ → ℕ → ℕ → Type 0
Led p l n q = ((o : ℕ) × First (Leads p l n q) (p - 1) o) ⊎ ((o : ℕ) → o < p - 1 → Leads p l n q o → ⊥)

abbrev leader : (p l n q : ℕ) → Led p l n q → ℕ
leader p l n q (inl t) = suc t.0
leader p l n q (inr none) = 1

module _ (p l n : ℕ) (P : Prime p) (h : 0 < l % p) (O : Order p l n) where
  class_round : (o : ℕ) → 0 < o → o < p → Round n (spun p l o)
  class_round o ho lt = record {
    some = O.some;
    once = λ j k. class_once p l P h n O o j k (below_pos p o ho lt);
    closes = class_closes p l P h n O o;
  }

  -- the least number from 1 on in whose class q is
  led : (q : ℕ) → Led p l n q
  led q = first (Leads p l n q) (λ o. in_class p l P h n O (suc o) q) (p - 1)

  lead : ℕ → ℕ
  lead q = leader p l n q (led q)

  leads : (q : ℕ) → 0 < q → q < p → (o : ℕ) × First (Leads p l n q) (p - 1) o × (lead q ≡ suc o)
  unfolding lead
  leads q hq lt = go (led q)
    where
      own : Leads p l n q (q - 1)
      own = let e : suc (q - 1) ≡ q = omega arith in rw e (class_own p l P h n O q lt)

      go : (d : Led p l n q) → (o : ℕ) × First (Leads p l n q) (p - 1) o × (leader p l n q d ≡ suc o)
      go (inl t) = (t.0, t.1, refl)
      go (inr none) = absurd (none (q - 1) (omega arith) own)

  lead_next : (q : ℕ) → 0 < q → q < p → lead (l * q % p) ≡ lead q
  lead_next q hq lt =
      let a = leads (l * q % p) (product_pos P l q h hq lt) (mod-lt _ (omega arith)) in
      let b = leads q hq lt in
      a.2
      ∙ ap suc (first_same (Leads p l n (l * q % p)) (Leads p l n q) (p - 1) a.0 b.0 (λ o. class_before p l P h n O (suc o) q lt) (λ o. class_next p l P h n O (suc o) q) a.1 b.1)
      ∙ sym b.2

  -- the value at q: what the chain from the leader of its class hands to it
  chained : (ℕ → ℕ) → ℕ → ℕ → ℕ
  chained f o = handed (spun p l o) (λ k. f (spun p l o k)) n

  classed : (ℕ → ℕ) → ℕ → ℕ
  classed f q = chained f (lead q) q

  classed_byte : (f : ℕ → ℕ) → ((k : ℕ) → f k < 256) → (q : ℕ) → classed f q < 256
  unfolding classed chained
  classed_byte f hf q = handed_byte n q (spun p l (lead q)) _ (λ k. hf _)

  -- where the terms of each class add up to zero, each step adds its term
  classed_next : (f : ℕ → ℕ) → ((o : ℕ) → 0 < o → o < p → xor_below n (λ k. f (spun p l o k)) ≡ 0)
      → (q : ℕ) → 0 < q → q < p → classed f (l * q % p) ≡ classed f q ⊕ f q
  unfolding classed chained
  classed_next f z q hq lt =
      let t = leads q hq lt in
      let o : ℕ = suc t.0 in
      let c = t.1.has in
      let chain = handed_chain n (spun p l o) (λ k. f (spun p l o k)) (class_round o (omega arith) (omega (arith, t.1.small))) (z o (omega arith) (omega (arith, t.1.small))) in
      ap (λ (r : ℕ). chained f r (l * q % p)) (lead_next q hq lt ∙ t.2)
      ∙ ap (chained f o) (sym (spun_next p l o c.0 ∙ ap (λ (x : ℕ). l * x % p) c.2))
      ∙ chain.next c.0 c.1
      ∙ ap (λ (x : ℕ). chained f o x ⊕ f x) c.2
      ∙ ap (λ (r : ℕ). chained f r q ⊕ f q) (sym t.2)

-- ---- offsets from the crossing

-- the cell that stands o further on than one in the crossing
abbrev pub away : ℕ → ℕ → ℕ → ℕ
away p from o = (from + o) % p

pub away_before : (p from i : ℕ) → i < p → away p from (before p from i) ≡ i
away_before p from i h = same p (add_comm from (before p from i)) ∙ before_step p from i h

pub before_away : (p from o : ℕ) → o < p → before p from (away p from o) ≡ o
before_away p from o h = ap (before p from) (same p (add_comm from o)) ∙ step_before p from o h

-- the XOR of the two sums through the row's cell at the offset o
abbrev pub gap : ℕ → ℕ → (ℕ → ℕ) → (ℕ → ℕ) → ℕ → ℕ → ℕ → ℕ
gap p l A B s t o = A (line p 1 s (away p t o)) ⊕ B (line p l s (away p t o))

-- x, a change in the column, is handed on from each offset o to l o
abbrev pub Carried : ℕ → ℕ → (ℕ → ℕ) → (ℕ → ℕ) → ℕ → ℕ → (ℕ → ℕ) → Type 0
Carried p l A B s t x = (o : ℕ) → o < p → gap p l A B s t o ≡ x (away p s o) ⊕ x (away p s (l * o % p))

-- the slope-k line through the row's cell o meets the column k o from the crossing
meeting : (p s t k o : ℕ) → line p k s (away p t o) ≡ line p k (away p s (k * o % p)) t
meeting p s t k o =
    sym (add-mod-mod s (k * away p t o) p) ∙ ap (λ (x : ℕ). (s + x) % p) (mul_mod_mod p k (t + o)) ∙ add-mod-mod s (k * (t + o)) p
    ∙ same p (omega arith)
    ∙ sym (ap (λ (x : ℕ). (x + k * t) % p) (add-mod-mod s (k * o) p) ∙ mod-add-mod (s + k * o) p (k * t))

module _ (p l m : ℕ) (inverse : l * m % p ≡ 1) (A B : ℕ → ℕ) (s t : ℕ) (hs : s < p) (ht : t < p) where
  pos : 0 < p
  pos = omega arith

  -- what is left on that line once x is added to the column
  left_away : (k : ℕ) (S x : ℕ → ℕ) (o : ℕ) → left p k S t x (line p k s (away p t o)) ≡ S (line p k s (away p t o)) ⊕ x (away p s (k * o % p))
  left_away k S x o =
      ap (λ (y : ℕ). S (line p k s (away p t o)) ⊕ y)
      (ap (sum p k (along (Column t) x)) (meeting p s t k o) ∙ sum_column p k t (away p s (k * o % p)) (along (Column t) x) (along_off p (Column t) x) ht (mod-lt _ pos)
      ∙ along_nth (Column t) x _)

  first_away : (x : ℕ → ℕ) (o : ℕ) → o < p → left p 1 A t x (line p 1 s (away p t o)) ≡ A (line p 1 s (away p t o)) ⊕ x (away p s o)
  first_away x o lt =
      left_away 1 A x o ∙ ap (λ (q : ℕ). A (line p 1 s (away p t o)) ⊕ x (away p s q)) (same p (omega arith) ∙ mod-eq_of_lt lt)

  -- so the row can settle what the column leaves exactly if the change in the column is carried
  carried_agree : (x : ℕ → ℕ) → Carried p l A B s t x → Agree p l (left p 1 A t x) (left p l B t x) (Row s)
  carried_agree x c j hj = rw (away_before p t j hj) at (at (before p t j) (before_lt p t j pos))
    where
      at : (o : ℕ) → o < p → left p 1 A t x (line p 1 s (away p t o)) ≡ left p l B t x (line p l s (away p t o))
      at o lt = from₂ (c o lt) (ap₂ ◌⊕◌ (first_away x o lt) (left_away l B x o)) (simp xors)

  agree_carried : (x : ℕ → ℕ) → Agree p l (left p 1 A t x) (left p l B t x) (Row s) → Carried p l A B s t x
  agree_carried x e o lt =
      let at : left p 1 A t x (line p 1 s (away p t o)) ≡ left p l B t x (line p l s (away p t o)) = e (away p t o) (mod-lt _ pos) in
      from₂ at (ap₂ ◌⊕◌ (first_away x o lt) (left_away l B x o)) (simp xors)

  pub carried_settles : (x : ℕ → ℕ) → Carried p l A B s t x → Settles p l A B (change p A t (Row s) x)
  carried_settles x c =
      settles_plus p l A B (along (Column t) x) (along (Row s) (shifted p (left p 1 A t x) (Row s)))
      (one_line_settles p l m inverse (left p 1 A t x) (left p l B t x) (Row s) hs (carried_agree x c))

  pub settles_carried : (D : Cells) → Settles p l A B D → ZeroOffBoth p (Column t) (Row s) D → Carried p l A B s t (λ i. keep (not (eqb i s)) (D i t))
  settles_carried D g off = agree_carried _ (pair_agrees p l m inverse A B t ht (Row s) hs D g off)

-- ---- the classes

-- the XOR of the gaps over the class of o, n steps round
unfoldable pub class_sum : ℕ → ℕ → ℕ → (ℕ → ℕ) → (ℕ → ℕ) → ℕ → ℕ → ℕ → ℕ
class_sum p l n A B s t o = xor_below n (λ k. gap p l A B s t (spun p l o k))

-- one step more, for a loop
pub class_none : (p l : ℕ) (A B : ℕ → ℕ) (s t o : ℕ) → class_sum p l 0 A B s t o ≡ 0
unfolding class_sum
class_none p l A B s t o = none _

pub class_more : (p l k : ℕ) (A B : ℕ → ℕ) (s t o : ℕ) → class_sum p l (k + 1) A B s t o ≡ class_sum p l k A B s t o ⊕ gap p l A B s t (spun p l o k)
unfolding class_sum
class_more p l k A B s t o = more k _

-- where row and column cross, the sum of slope 1 is that of slope l; and of each class, the sums through its cells of the row, of both slopes
-- together, add up to 0
pub record ClassesAgree (p l n : ℕ) (A B : ℕ → ℕ) (s t : ℕ) : Type 0 where
  pub crossing : A (line p 1 s t) ≡ B (line p l s t)
  pub class : (o : ℕ) → 0 < o → o < p → class_sum p l n A B s t o ≡ 0

-- the crossing is at the offset 0
at_crossing : (p l : ℕ) (A B : ℕ → ℕ) (s t : ℕ) → t < p → gap p l A B s t 0 ≡ A (line p 1 s t) ⊕ B (line p l s t)
at_crossing p l A B s t ht = ap (λ (j : ℕ). A (line p 1 s j) ⊕ B (line p l s j)) (same p (omega arith) ∙ mod-eq_of_lt ht)

-- and stays there
still : (p l : ℕ) (x : ℕ → ℕ) (s : ℕ) → x (away p s 0) ⊕ x (away p s (l * 0 % p)) ≡ 0
still p l x s = ap (λ (i : ℕ). x (away p s 0) ⊕ x (away p s i)) (same p (mul-zero l) ∙ zero-mod p) ∙ self _

-- what is carried agrees over each class: round the class it comes back to the same value
pub carried_classes : (p l n : ℕ) (A B : ℕ → ℕ) (s t : ℕ) (x : ℕ → ℕ) → Slope p l → Order p l n → t < p → Carried p l A B s t x → ClassesAgree p l n A B s t
unfolding class_sum
carried_classes p l n A B s t x S O ht c = record {
  crossing = eq_of_zero _ _ (sym (at_crossing p l A B s t ht) ∙ c 0 (omega arith) ∙ still p l x s);
  class = λ o ho lt.
      ext n _ _ (λ k q. c (spun p l o k) (mod-lt _ (omega arith)) ∙ ap (λ (i : ℕ). x (away p s (spun p l o k)) ⊕ x (away p s i)) (sym (spun_next p l o k)))
      ∙ telescope n (λ k. x (away p s (spun p l o k)))
      ∙ ap (λ (i : ℕ). x (away p s (spun p l o 0)) ⊕ x (away p s i)) (class_closes p l S.prime (slope_pos p l S) n O o)
      ∙ self _;
}

-- and where all agree, something is carried, that is 0 at the column's added zero
module _ (p l n : ℕ) (A B : ℕ → ℕ) (s t : ℕ) (S : Slope p l) (O : Order p l n) (hs : s < p) (ht : t < p) where
  -- the change in the column, at each offset but for what is added to all
  by_class : ℕ → ℕ
  by_class = classed p l n S.prime (slope_pos p l S) O (gap p l A B s t)

  by_next : ClassesAgree p l n A B s t → (o : ℕ) → 0 < o → o < p → by_class (l * o % p) ≡ by_class o ⊕ gap p l A B s t o
  unfolding by_class class_sum
  by_next c = classed_next p l n S.prime (slope_pos p l S) O (gap p l A B s t) c.class

  by_byte : ((k : ℕ) → A k < 256) → ((k : ℕ) → B k < 256) → (o : ℕ) → by_class o < 256
  unfolding by_class
  by_byte ha hb = classed_byte p l n S.prime (slope_pos p l S) O (gap p l A B s t) (λ k. byte _ _ (ha _) (hb _))

  in_column : ℕ → ℕ
  in_column i = by_class (before p s i) ⊕ by_class (before p s (p - 1))

  column_zero : in_column (p - 1) ≡ 0
  unfolding in_column
  column_zero = self _

  column_byte : ((k : ℕ) → A k < 256) → ((k : ℕ) → B k < 256) → (i : ℕ) → in_column i < 256
  unfolding in_column
  column_byte ha hb i = byte _ _ (by_byte ha hb _) (by_byte ha hb _)

  column_at_lem : (o : ℕ) → o < p → in_column (away p s o) ≡ by_class o ⊕ by_class (before p s (p - 1))
  unfolding in_column
  column_at_lem o h = ap (λ (i : ℕ). by_class i ⊕ by_class (before p s (p - 1))) (before_away p s o h)

  column_carried : ClassesAgree p l n A B s t → Carried p l A B s t in_column
  column_carried c o lt = go (eq-zero-or-pos o)
    where
      go : (o ≡ 0) ⊎ (0 < o) → gap p l A B s t o ≡ in_column (away p s o) ⊕ in_column (away p s (l * o % p))
      go (inl z) = rw z (at_crossing p l A B s t ht ∙ rw c.crossing (self _) ∙ sym (still p l in_column s))
      go (inr h) = from₂ (ap₂ ◌⊕◌ (column_at_lem o lt) (column_at_lem (l * o % p) (mod-lt _ (omega arith)))) (by_next c o h lt) (simp xors)

-- A ROW WITH A COLUMN, FOR ANY SLOPE: the sums are settled exactly if they agree through the crossing and over each class
pub classes_settled : (p l n s t : ℕ) (A B : ℕ → ℕ) → Slope p l → Order p l n → s < p - 1 → t < p - 1 → ClassesAgree p l n A B s t
    → Settled p l (Column t) (Row s) A B
classes_settled p l n s t A B S O hs ht c = let i = slope_inverse p l S in record {
  by = change p A t (Row s) x;
  settles = carried_settles p l i.0 i.1 A B s t (omega arith) (omega arith) x (column_carried p l n A B s t S O (omega arith) (omega arith) c);
  padded = change_padded p A t (Row s) x ht hs (column_zero p l n A B s t S O (omega arith) (omega arith));
  off = change_off p A t (Row s) x;
  bytes = λ ha hb. change_byte p A t (Row s) x ha (column_byte p l n A B s t S O (omega arith) (omega arith) ha hb);
}
  where
    x : ℕ → ℕ
    x = in_column p l n A B s t S O (omega arith) (omega arith)

pub settles_classes : (p l n s t : ℕ) (A B : ℕ → ℕ) (D : Cells) → Slope p l → Order p l n → s < p → t < p → Settles p l A B D
    → ZeroOffBoth p (Column t) (Row s) D → ClassesAgree p l n A B s t
settles_classes p l n s t A B D S O hs ht g off = let i = slope_inverse p l S in
    carried_classes p l n A B s t (λ i. keep (not (eqb i s)) (D i t)) S O ht (settles_carried p l i.0 i.1 A B s t hs ht D g off)
