-- The change that settles given sums within two lines: it always exists in two columns and in two rows, and in a row with a column
-- exactly if the sums of the two diagonals through the crossing agree. All that is asked of the sums is that their totals are the same. Assumes nothing.
use Rattle.std.specs.Prelude.{◌≡◌, ◌≢◌, ℕ, ◌+◌, ◌-◌, ◌*◌, ◌%◌, ◌<◌}
use Rattle.std.proofs.Common.{sym, ap, ◌∙◌, arith}
use Rattle.xor.specs.Xor.{◌⊕◌, self, byte}
use Rattle.xor.specs.Sum.{xor_below, ext}
use Rattle.residue.specs.Remainder.{same}
use Rattle.residue.specs.Power.{ReachesAll}
use Rattle.code.specs.Slope.{Slope, slope_pos, slope_inverse}
use Rattle.code.specs.Tile.{Cells, line}
use Rattle.code.specs.Sums.{Padded}
use Rattle.code.specs.Settle.{Settles}
use Rattle.code.specs.Turn.{turned, padded_turned, turned_settles}
use Rattle.code.specs.OneLine.{number, Agree, shifted, along, along_off, along_padded, along_byte, one_line_settles}
use Rattle.code.specs.Chain.{Chain, chain_closes, handed, handed_chain, handed_byte, stepped}
use Rattle.code.specs.Pair.{ZeroOffBoth, Hops, hop, CrossingAgrees, change, pair_settles, change_padded, change_off, change_byte}
use Rattle.code.specs.Columns.{Stride, stride, stride_is, row_by, stop_by, stride_pos, columns_hops, columns_close}
use Rattle.code.specs.Crossed.{cell_by, crossed_hops, crossed_total}
use Rattle.code.specs.declared.Line.{Line}
use Rattle.code.specs.declared.Line.TheVariants.{Row, Column}

-- a change within the lines a and b that settles A and B
pub record Settled (p l : ℕ) (a b : Line) (A B : ℕ → ℕ) : Type 0 where
  pub by : Cells
  pub settles : Settles p l A B by
  pub padded : Padded p by
  pub off : ZeroOffBoth p a b by
  pub bytes : ((t : ℕ) → A t < 256) → ((t : ℕ) → B t < 256) → (i j : ℕ) → by i j < 256

-- in one line, where the sums agree along it
pub line_settled : (p l : ℕ) (a : Line) (A B : ℕ → ℕ) → Slope p l → number a < p - 1 → Agree p l A B a → Settled p l a a A B
line_settled p l a A B S h e = let i = slope_inverse p l S in record {
  by = along a (shifted p A a);
  settles = one_line_settles p l i.0 i.1 A B a (omega arith) e;
  padded = along_padded p a (shifted p A a) h (self _);
  off = λ i j hi hj d q. along_off p a (shifted p A a) i j hi hj d;
  bytes = λ ha hb. along_byte a (shifted p A a) (λ k. byte _ _ (ha _) (ha _));
}

-- what a chain in column c needs so that the line b settles the rest: hops that pass all, terms that add up to zero round the walk, and
-- sums that agree where b crosses the column
pub record Closing (p l c : ℕ) (b : Line) (A B : ℕ → ℕ) (n : ℕ) (walk stop : ℕ → ℕ) : Type 0 where
  pub hops : Hops p l c b n walk stop
  pub zero : xor_below n (hop p l A B c walk) ≡ 0
  pub crossing : CrossingAgrees p l A B c b

-- two columns: whatever the sums
pub columns_closing : (p l u v d : ℕ) (A B : ℕ → ℕ) → Slope p l → u < p → v < p → u ≢ v → Stride p l u v d → xor_below p A ≡ xor_below p B
    → Closing p l u (Column v) A B p (row_by p d) (stop_by p d u v)
columns_closing p l u v d A B S hu hv apart step e = record {
  hops = columns_hops p l u v d S.prime S.low (omega (arith, S.high)) hu hv apart step;
  zero = columns_close p l u d A B S.prime (stride_pos p l u v d S.prime S.low (omega (arith, S.high)) hu hv apart step) e;
  crossing = λ j hj q. absurd (apart (sym q));
}

-- a row with a column: where the powers reach all, and the sums through the crossing agree
pub crossed_closing : (p l s t : ℕ) (A B : ℕ → ℕ) → Slope p l → ReachesAll p l → s < p - 1 → t < p → xor_below p A ≡ xor_below p B
    → A (line p 1 s t) ≡ B (line p l s t) → Closing p l t (Row s) A B (p - 1) (cell_by p l s s) (cell_by p l s t)
crossed_closing p l s t A B S all hs ht e cross = record {
  hops = crossed_hops p l s t S.prime (slope_pos p l S) all hs ht;
  zero = crossed_total p l s t S.prime (slope_pos p l S) all hs ht A B e ∙ rw cross (self _);
  crossing = λ j hj q. rw q cross;
}

module _ (p l c : ℕ) (b : Line) (A B : ℕ → ℕ) (n : ℕ) (walk stop : ℕ → ℕ) (S : Slope p l) (closing : Closing p l c b A B n walk stop) where
  -- THE CHAIN GIVES IT: whoever starts from x(p-1) = 0 and takes all steps but the last has the change in the column; `shifted` of what it
  -- leaves is the change in b. In two columns this is the chain x(m + d), in a row and a column it is (24) to (29) of the paper
  pub by_chain : (x : ℕ → ℕ) → c < p → number b < p → x (p - 1) ≡ 0
      → ((k : ℕ) → k + 1 < n → x (walk (k + 1)) ≡ x (walk k) ⊕ hop p l A B c walk k) → Settles p l A B (change p A c b x)
  by_chain x hc hb z next =
      let i = slope_inverse p l S in
      pair_settles p l i.0 i.1 A B c hc b hb n walk stop closing.hops x
      (chain_closes n walk (hop p l A B c walk) x closing.hops.round closing.zero (ap x closing.hops.start ∙ z) next) closing.crossing

  chained : c < p - 1 → number b < p - 1 → Settled p l (Column c) b A B
  chained hc hb = record {
    by = change p A c b x;
    settles = by_chain x (omega arith) (omega arith) z (λ k h. chain.next k (omega arith));
    padded = change_padded p A c b x hc hb z;
    off = change_off p A c b x;
    bytes = λ ha hb. change_byte p A c b x ha (λ k. handed_byte n k walk (hop p l A B c walk) (λ i. byte _ _ (ha _) (hb _)));
  }
    where
      x : ℕ → ℕ
      x = handed walk (hop p l A B c walk) n

      chain : Chain n walk (hop p l A B c walk) x
      chain = handed_chain n walk (hop p l A B c walk) closing.hops.round closing.zero

      z : x (p - 1) ≡ 0
      z = ap x (sym closing.hops.start) ∙ chain.start

pub columns_settled : (p l u v : ℕ) (A B : ℕ → ℕ) → Slope p l → u < p - 1 → v < p - 1 → u ≢ v → xor_below p A ≡ xor_below p B
    → Settled p l (Column u) (Column v) A B
columns_settled p l u v A B S hu hv apart e =
    let d : ℕ = stride p l u v in
    chained p l u (Column v) A B p (row_by p d) (stop_by p d u v) S
    (columns_closing p l u v d A B S (omega arith) (omega arith) apart (stride_is p l u v (omega arith)) e) hu hv

-- the sums of the turned tile have the same total
pub turned_total : (p l : ℕ) (B : ℕ → ℕ) → Slope p l → xor_below p (λ t. B (l * t % p)) ≡ xor_below p B
turned_total p l B S = ext p _ _ (λ k h. ap B (same p (omega arith))) ∙ stepped p l 0 B S.prime (slope_pos p l S)

-- rows are columns of the turned tile
pub rows_settled : (p l r s : ℕ) (A B : ℕ → ℕ) → Slope p l → r < p - 1 → s < p - 1 → r ≢ s → xor_below p A ≡ xor_below p B
    → Settled p l (Row r) (Row s) A B
rows_settled p l r s A B S hr hs apart e = record {
  by = turned t.by;
  settles = turned_settles p l m i.1 A B (turned t.by) t.settles;
  padded = padded_turned p t.by t.padded;
  off = λ i j hi hj d q. t.off j i hj hi d q;
  bytes = λ ha hb i j. t.bytes ha (λ k. hb (l * k % p)) j i;
}
  where
    i : (m : ℕ) × (l * m % p ≡ 1) × Slope p m
    i = slope_inverse p l S

    m : ℕ
    m = i.0

    t : Settled p m (Column r) (Column s) A (λ k. B (l * k % p))
    t = columns_settled p m r s A (λ k. B (l * k % p)) i.2 hr hs apart (e ∙ sym (turned_total p l B S))

pub crossed_settled : (p l s t : ℕ) (A B : ℕ → ℕ) → Slope p l → ReachesAll p l → s < p - 1 → t < p - 1 → xor_below p A ≡ xor_below p B
    → A (line p 1 s t) ≡ B (line p l s t) → Settled p l (Column t) (Row s) A B
crossed_settled p l s t A B S all hs ht e cross =
    chained p l t (Row s) A B (p - 1) (cell_by p l s s) (cell_by p l s t) S (crossed_closing p l s t A B S all hs (omega arith) e cross) ht hs
