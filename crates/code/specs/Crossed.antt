-- A hurt row s with a hurt column t: the paper's chain (24) to (29). Counted from the crossing, the hops go from the offset o to l o, so
-- they pass every offset but 0 where the powers of l reach all. They start at the added zero of the column, at the offset p - 1 - s.
-- The terms add up to the two sums through the crossing, so the chain closes where these agree. Assumes nothing.
use Rattle.std.specs.Prelude.{◌≡◌, ◌≢◌, ◌⊎◌, Bool, true, false, ℕ, suc, ◌+◌, ◌-◌, ◌*◌, ◌%◌, ◌<◌, ltb}
use Rattle.std.proofs.Common.{sym, ap, ap₂, ◌∙◌, inl, inr, ⊎_elim, mod-lt, mod-eq_of_lt, add_comm, eq-zero-or-pos, eq-or-lt_of_le, arith, lt-ltb, le-ltb}
use Rattle.std.proofs.Math.Nat.{mod-add-mod, add-mod-mod}
use Rattle.xor.specs.Xor.{◌⊕◌, self, from₂, xors}
use Rattle.xor.specs.Sum.{xor_below, keep, ext, split, more, count}
use Rattle.residue.specs.Remainder.{same, mul_mod_mod, before, before_lt, before_step, below, below_pos, cancel_left}
use Rattle.residue.specs.Prime.{Prime}
use Rattle.residue.specs.Power.{ReachesAll, spun, spun_first, spun_next, spun_pos, spun_meets, spun_once, spun_closes}
use Rattle.code.specs.Tile.{line}
use Rattle.code.specs.Chain.{reordered, stepped}
use Rattle.code.specs.Pair.{Hops, hop}
use Rattle.code.specs.declared.Line.TheVariants.{Row}

-- the k-th offset from the crossing, and the cell that stands so far from one in the crossing
abbrev pub offset : ℕ → ℕ → ℕ → ℕ → ℕ
offset p l s k = spun p l (p - 1 - s) k

abbrev pub cell_by : ℕ → ℕ → ℕ → ℕ → ℕ → ℕ
cell_by p l s from k = (from + offset p l s k) % p

module _ (p l s t : ℕ) (P : Prime p) (pos_l : 0 < l % p) (all : ReachesAll p l) (hs : s < p - 1) (ht : t < p) where
  pos : 0 < p
  pos = omega arith

  begin : 0 < (p - 1 - s) % p
  begin = below_pos p (p - 1 - s) (omega arith) (omega arith)

  -- the slope-k line through the cell o along the row, and through the cell k o along the column
  along_row : (k o : ℕ) → (s + k * ((t + o) % p)) % p ≡ (s + k * t + o * k) % p
  along_row k o =
      sym (add-mod-mod s (k * ((t + o) % p)) p) ∙ ap (λ (x : ℕ). (s + x) % p) (mul_mod_mod p k (t + o)) ∙ add-mod-mod s (k * (t + o)) p ∙ same p (omega arith)

  along_column : (k o : ℕ) → ((s + k * o % p) % p + k * t) % p ≡ (s + k * t + o * k) % p
  along_column k o =
      ap (λ (x : ℕ). (x + k * t) % p) (add-mod-mod s (k * o) p) ∙ mod-add-mod (s + k * o) p (k * t) ∙ same p (omega arith)

  -- an offset is reduced already
  reduced : (k : ℕ) → 1 * offset p l s k % p ≡ offset p l s k
  reduced k = same p (omega arith) ∙ mod-eq_of_lt (mod-lt _ pos)

  -- each cell of a line but the one in the crossing is passed
  passed : (from i : ℕ) → from < p → i < p → i ≢ from → (k : ℕ) × (k < p - 1) × (cell_by p l s from k ≡ i)
  passed from i hf hi d = let m = spun_meets p l P pos_l all (p - 1 - s) o begin o_pos (before_lt p from i pos) in (
    m.0,
    m.1,
    ap (λ (x : ℕ). (from + x) % p) m.2 ∙ same p (add_comm from o) ∙ before_step p from i hi,
  )
    where
      o : ℕ
      o = before p from i

      o_pos : 0 < o
      o_pos = ⊎_elim (λ z. absurd (d (sym (sym (mod-eq_of_lt hf) ∙ same p (sum z) ∙ before_step p from i hi)))) (λ h. h) (eq-zero-or-pos o)
        where
          sum : o ≡ 0 → from ≡ o + from
          sum z = omega arith

  -- the two lines of a hop, seen from the column
  column_first : (k : ℕ) → line p 1 (cell_by p l s s k) t ≡ (s + 1 * t + offset p l s k * 1) % p
  column_first k = ap (λ (x : ℕ). ((s + x) % p + 1 * t) % p) (sym (reduced k)) ∙ along_column 1 (offset p l s k)

  column_second : (k : ℕ) → line p l (cell_by p l s s (k + 1)) t ≡ (s + l * t + offset p l s k * l) % p
  column_second k = ap (λ (x : ℕ). ((s + x) % p + l * t) % p) (spun_next p l (p - 1 - s) k) ∙ along_column l (offset p l s k)

  pub crossed_hops : Hops p l t (Row s) (p - 1) (cell_by p l s s) (cell_by p l s t)
  crossed_hops = record {
    round = record {
      some = omega arith;
      once = λ j k jk kn e.
          spun_once p l P pos_l all (p - 1 - s) j k begin jk kn
          (below p _ _ (mod-lt _ pos) (mod-lt _ pos) (cancel_left p s (offset p l s j) (offset p l s k) e));
      closes = ap (λ (x : ℕ). (s + x) % p) (spun_closes p l P pos_l all (p - 1 - s));
    };
    start = ap (λ (x : ℕ). (s + x) % p) (spun_first p l (p - 1 - s) (omega arith)) ∙ same p (omega arith) ∙ mod-eq_of_lt (omega arith);
    row = λ k. mod-lt _ pos;
    cell = λ k. mod-lt _ pos;
    first = λ k. along_row 1 (offset p l s k) ∙ sym (column_first k);
    second = λ k. along_row l (offset p l s k) ∙ sym (column_second k);
    rows = λ i hi d. passed s i (omega arith) hi d;
    stops = λ j hj d. passed t j ht hj d;
    clear = λ k e.
        omega (
          arith,
          spun_pos p l P pos_l (p - 1 - s) begin k,
          below p (offset p l s k) 0 (mod-lt _ pos) pos
              (cancel_left p t (offset p l s k) 0 (e ∙ sym (mod-eq_of_lt ht) ∙ same p (omega arith))),
        );
  }

  -- the terms at all offsets but 0, and that at 0
  spun_total : (f : ℕ → ℕ) → xor_below (p - 1) (λ k. f (offset p l s k)) ⊕ f 0 ≡ xor_below p f
  spun_total f =
      ap₂ ◌⊕◌ (ext (p - 1) _ _ (λ k h. ap f (sym (at k h)))) (ap f (sym last))
      ∙ sym (more (p - 1) (λ k. f (σ k))) ∙ count (p - 1 + 1) p (λ k. f (σ k)) (omega arith)
      ∙ reordered p σ f (λ k h. lt k) (λ j k jk kp e. apart j k jk kp e (eq-or-lt_of_le kp))
    where
      σ : ℕ → ℕ
      σ k = keep (ltb k (p - 1)) (offset p l s k)

      at : (k : ℕ) → k < p - 1 → σ k ≡ offset p l s k
      at k h = rw (lt-ltb k (p - 1) h)

      last : σ (p - 1) ≡ 0
      last = rw (le-ltb (p - 1) (p - 1) (omega arith))

      lt : (k : ℕ) → σ k < p
      lt k = kept (ltb k (p - 1)) (offset p l s k) (mod-lt _ pos)
        where
          kept : (b : Bool) (x : ℕ) → x < p → keep b x < p
          kept true x h = h
          kept false x h = pos

      apart : (j k : ℕ) → j < k → k < p → σ j ≡ σ k → (suc k ≡ p) ⊎ (suc k < p) → ⊥
      apart j k jk kp e (inl q) =
          omega (arith, sym (at j (omega arith)) ∙ e ∙ ap σ (k_last q) ∙ last, spun_pos p l P pos_l (p - 1 - s) begin j)
        where
          k_last : suc k ≡ p → k ≡ p - 1
          k_last q = omega arith
      apart j k jk kp e (inr h) = spun_once p l P pos_l all (p - 1 - s) j k begin jk (omega arith) (sym (at j (omega arith)) ∙ e ∙ at k (omega arith))

  -- the terms of the chain add up to the two sums through the crossing
  pub crossed_total : (A B : ℕ → ℕ) → xor_below p A ≡ xor_below p B
      → xor_below (p - 1) (hop p l A B t (cell_by p l s s)) ≡ A (line p 1 s t) ⊕ B (line p l s t)
  crossed_total A B e =
      ext (p - 1) _ _ (λ k h. ap₂ ◌⊕◌ (ap A (column_first k)) (ap B (column_second k)))
      ∙ all_but_zero ∙ ap₂ ◌⊕◌ (ap A (same p (omega arith))) (ap B (same p (omega arith)))
    where
      term : ℕ → ℕ
      term o = A ((s + 1 * t + o * 1) % p) ⊕ B ((s + l * t + o * l) % p)

      total : xor_below p term ≡ 0
      total =
          split p _ _ ∙ ap₂ ◌⊕◌ (stepped p 1 (s + 1 * t) A P (below_pos p 1 (omega arith) (omega arith))) (stepped p l (s + l * t) B P pos_l ∙ sym e) ∙ self _

      all_but_zero : xor_below (p - 1) (λ k. term (offset p l s k)) ≡ term 0
      all_but_zero = from₂ (spun_total term) total (simp xors)
