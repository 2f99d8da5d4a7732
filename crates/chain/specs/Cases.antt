-- How many changes in one or two flagged lines settle the sums, case by case: one column, two columns, a column with a row, and rows
-- as columns of the turned tile. Assumes nothing.
use Rattle.std.specs.Prelude.{◌≡◌, refl, ◌≢◌, List, ℕ, ◌-◌, ◌*◌, ◌%◌, ◌<◌, eqb, Result, Ok, Err}
use Rattle.std.proofs.Common.{sym, ap, ◌∙◌, inl, inr, arith}
use Rattle.xor.specs.Xor.{◌⊕◌, comm, self, zero_r}
use Rattle.xor.specs.Sum.{xor_below, ext, keep_zero}
use Rattle.residue.specs.Power.{ReachesAll}
use Rattle.residue.specs.Remainder.{same}
use Rattle.code.specs.Slope.{Slope, slope_inverse}
use Rattle.code.specs.Tile.{Cells, line, sum}
use Rattle.code.specs.Sums.{plus, totals}
use Rattle.code.specs.Settle.{settles_ext, settles_sums}
use Rattle.code.specs.Turn.{turned, padded_turned, settles_turned, turned_settles}
use Rattle.code.specs.OneLine.{Agree, shifted, along, along_ext, one_line_agrees, one_line_settles}
use Rattle.code.specs.Columns.{stride, stride_is, row_by, stop_by}
use Rattle.code.specs.Crossed.{cell_by}
use Rattle.code.specs.Existence.{columns_closing, crossed_closing, turned_total}
use Rattle.code.specs.Distance.{Parallel}
use Rattle.code.specs.Fillings.{Sure}
use Rattle.code.specs.declared.Line.{Line}
use Rattle.code.specs.declared.Line.TheVariants.{Row, Column}
use Rattle.code.specs.Held.{held}
use Rattle.walk.specs.Sums.{Sums}
use Rattle.walk.specs.Along.{Stepping, Shifted}
use Rattle.classes.specs.Many.{SettledSome, CrossedMany, no_crossed, one_crossed, several_crossed}
use Rattle.size.specs.declared.Unclear.{Unclear}
use Rattle.chain.specs.Solve.{SettledBy, Solved, none, one, several, Closes}

-- the sums of both slopes have one total, also as arrays hold them
pub held_totals : (p l : ℕ) (T : Cells) (a b : List ℕ) → Sums p 1 T a → Sums p l T b → xor_below p (held a) ≡ xor_below p (held b)
held_totals p l T a b ha hb = ext p (held a) (sum p 1 T) ha ∙ totals p 1 l T ∙ sym (ext p (held b) (sum p l T) hb)

-- the sums of the turned tile are every l-th of those of slope l
turned_sums : (p l : ℕ) (B B' : ℕ → ℕ) → Stepping p 0 l B B' → (t : ℕ) → t < p → B' t ≡ B (l * t % p)
turned_sums p l B B' h t q = h t q ∙ ap B (same p (omega arith))

-- and they have that total too
pub held_turned : (p l : ℕ) (A B B' : ℕ → ℕ) → Slope p l → Stepping p 0 l B B' → xor_below p A ≡ xor_below p B → xor_below p A ≡ xor_below p B'
held_turned p l A B B' S h e = e ∙ sym (ext p B' (λ t. B (l * t % p)) (turned_sums p l B B' h) ∙ turned_total p l B S)

-- two lines are sure in either order
sure_either : (p l : ℕ) (a b : Line) → Sure p l a b → Sure p l b a
sure_either p l a b (inl h) = inl (parallel_either a b h)
  where
    parallel_either : (a b : Line) → Parallel a b → Parallel b a
    parallel_either (Row r) (Row s) h = h
    parallel_either (Column c) (Column d) h = h
    parallel_either (Row r) (Column d) h = elim h [ ]
    parallel_either (Column c) (Row s) h = elim h [ ]
sure_either p l a b (inr all) = inr all

module _ (p l : ℕ) (a b : Line) (A B : ℕ → ℕ) where
  -- only the sums of the lines 0 to p-1 count
  some_sums : (A' B' : ℕ → ℕ) → ((t : ℕ) → t < p → A t ≡ A' t) → ((t : ℕ) → t < p → B t ≡ B' t) → SettledSome p l a b A B → SettledSome p l a b A' B'
  some_sums A' B' ha hb s = record { by = s.by; settles = settles_sums p l A B A' B' s.by ha hb s.settles; padded = s.padded; off = s.off }

  -- the lines may be named in either order
  some_either : SettledSome p l a b A B → SettledSome p l b a A B
  some_either s = record { by = s.by; settles = s.settles; padded = s.padded; off = λ i j hi hj d e. s.off i j hi hj e d }

-- both of what is solved
module _ (p l : ℕ) (a b : Line) (A B : ℕ → ℕ) (x y : ℕ → ℕ) where
  pub solved_sums : (A' B' : ℕ → ℕ) {said : Result Unit Unclear} → ((t : ℕ) → t < p → A t ≡ A' t) → ((t : ℕ) → t < p → B t ≡ B' t)
      → Solved p l a b A B x y said → Solved p l a b A' B' x y said
  solved_sums A' B' ha hb (one h s) = one h (record { settles = settles_sums p l A B A' B' _ ha hb s.settles; first = s.first; second = s.second })
  solved_sums A' B' ha hb (none f) = none (λ s. f (some_sums p l a b A' B' A B (λ t h. sym (ha t h)) (λ t h. sym (hb t h)) s))
  solved_sums A' B' ha hb (several d s) = several d (some_sums p l a b A B A' B' ha hb s)

  pub solved_either : {said : Result Unit Unclear} → Solved p l a b A B x y said → Solved p l b a A B y x said
  solved_either (one h s) = one (sure_either p l a b h) (record {
    settles = settles_ext p l A B (plus (along a x) (along b y)) (plus (along b y) (along a x)) (λ i j hi hj. comm _ _) s.settles;
    first = s.second;
    second = s.first;
  })
  solved_either (none f) = none (λ s. f (some_either p l b a A B s))
  solved_either (several d s) = several (λ h. d (sure_either p l b a h)) (some_either p l a b A B s)

-- rows are columns of the turned tile, whose slope is the inverse m
pub solved_rows : (p l m r s : ℕ) (A B B' x y : ℕ → ℕ) {said : Result Unit Unclear} → l * m % p ≡ 1 → Stepping p 0 l B B'
    → Solved p m (Column r) (Column s) A B' x y said → Solved p l (Row r) (Row s) A B x y said
solved_rows p l m r s A B B' x y inverse h (one sure t) = one (inl tt) (record {
  settles =
      turned_settles p l m inverse A B (plus (along (Row r) x) (along (Row s) y))
      (settles_sums p m A B' A (λ t. B (l * t % p)) (plus (along (Column r) x) (along (Column s) y))
      (λ t q. refl) (turned_sums p l B B' h) t.settles);
  first = t.first;
  second = t.second;
})
solved_rows p l m r s A B B' x y inverse h (none f) = none (λ t. f (record {
  by = turned t.by;
  settles =
      settles_sums p m A (λ t. B (l * t % p)) A B' (turned t.by) (λ t q. refl) (λ t q. sym (turned_sums p l B B' h t q))
      (settles_turned p l m inverse A B t.by t.settles);
  padded = padded_turned p t.by t.padded;
  off = λ i j hi hj d e. t.off j i hj hi d e;
}))
solved_rows p l m r s A B B' x y inverse h (several d t) = absurd (d (inl tt))

module _ (p l : ℕ) (A B : ℕ → ℕ) (S : Slope p l) where
  -- one column, where the sums agree along it: its change, and no second one
  pub one_yes : (c : ℕ) (x y : ℕ → ℕ) → c < p - 1 → Agree p l A B (Column c) → Shifted p A (Column c) x → ((k : ℕ) → y k ≡ 0)
      → SettledBy p l (Column c) (Column c) A B x y
  one_yes c x y hc e h z = record {
    settles =
        settles_ext p l A B (along (Column c) (shifted p A (Column c))) (plus (along (Column c) x) (along (Column c) y))
        (λ i j hi hj. sym (ap (λ (w : ℕ). along (Column c) x i j ⊕ w) (rw (z i) (keep_zero (eqb j c))) ∙ zero_r _ ∙ along_ext p (Column c) x _ h i j hi hj))
        (let m = slope_inverse p l S in one_line_settles p l m.0 m.1 A B (Column c) (omega arith) e);
    first = h (p - 1) (omega arith) ∙ self _;
    second = z (p - 1);
  }

  -- and where they do not, none
  pub one_no : (c : ℕ) → c < p - 1 → (Agree p l A B (Column c) → ⊥) → SettledSome p l (Column c) (Column c) A B → ⊥
  one_no c hc d s =
      let m = slope_inverse p l S in
      d (one_line_agrees p l m.0 m.1 A B (Column c) s.by (omega arith) s.settles (λ i j hi hj q. s.off i j hi hj q q))

  -- two columns: the chain closes
  pub columns_close : (u v : ℕ) → u < p → v < p → u ≢ v → xor_below p A ≡ xor_below p B → Closes p l u (Column v) A B
  columns_close u v hu hv d e = record {
    walk = row_by p (stride p l u v);
    stop = stop_by p (stride p l u v) u v;
    closing = columns_closing p l u v (stride p l u v) A B S hu hv d (stride_is p l u v (omega arith)) e;
  }

  -- a column with a row: it closes where the sums through the crossing agree
  pub crossed_close : (t s : ℕ) → ReachesAll p l → s < p - 1 → t < p → xor_below p A ≡ xor_below p B → A (line p 1 s t) ≡ B (line p l s t) → Closes p l t (Row s) A B
  crossed_close t s all hs ht e cross = record {
    walk = cell_by p l s s;
    stop = cell_by p l s t;
    closing = crossed_closing p l s t A B S all hs ht e cross;
  }

-- a column with a row, where there is not one, and where there is
pub not_one : {p l t s : ℕ} {A B x y : ℕ → ℕ} {why : Unclear} → CrossedMany p l t s A B (Err why) → Solved p l (Column t) (Row s) A B x y (Err why)
not_one (no_crossed f) = none f
not_one (several_crossed d c) = several d c

pub one_reaches : {p l t s : ℕ} {A B : ℕ → ℕ} → CrossedMany p l t s A B (Ok tt) → ReachesAll p l × (A (line p 1 s t) ≡ B (line p l s t))
one_reaches (one_crossed all e) = (all, e)
