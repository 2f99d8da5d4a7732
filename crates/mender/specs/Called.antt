-- What a change in a line is called: the name of the difference that it makes in a tile (SPEC 5.3). Assumes nothing.
use Rattle.std.specs.Prelude.{◌≡◌, List, ℕ, ◌+◌, ◌-◌, ◌≤◌, ◌<◌, true, false, Option, Some, None, is_some}
use Rattle.std.proofs.Common.{sym, ap, ◌∙◌, arith}
use Rattle.xor.specs.Xor.{◌⊕◌, zero_r, cancel}
use Rattle.code.specs.Tile.{cell, EqualOutside, Differ}
use Rattle.code.specs.OneLine.{number, row_at, column_at, along, along_off, along_nth}
use Rattle.code.specs.Differ.{index, nth_in}
use Rattle.code.specs.declared.Line.{Line}
use Rattle.cells.specs.Change.{Added}
use Rattle.search.specs.Hurt.{ChangedAt, NextChanged, Twice, twice_changed, once_changed}
use Rattle.promise.specs.Answer.{Said}
use Rattle.promise.specs.Calls.{Named, by_cell}
use Rattle.promise.specs.Name.{line_said, DifferNth, nth_of, in_one, in_more, line_named}

-- the change X in the line a is called s: to whatever tile it is added, s is the name of what differs, if anything does
pub record Called (p : ℕ) (a : Line) (X : ℕ → ℕ) (s : Said) : Type 0 where
  pub names : (x z : List ℕ) → number a < p - 1 → Added p (along a X) x z → (((i j : ℕ) → Differ p x z i j → ⊥) → ⊥) → Named p x z s

module _ (p : ℕ) (a : Line) (X : ℕ → ℕ) (x z : List ℕ) (h : number a < p - 1) (added : Added p (along a X) x z) where
  -- outside the line nothing is changed
  pub unchanged : EqualOutside p a x z
  unchanged i j hi hj d = sym (added i j hi hj ∙ ap (λ (w : ℕ). cell p x i j ⊕ w) (along_off p a X i j (omega arith) (omega arith) d) ∙ zero_r _)

  -- its k-th cell is changed by X k
  nth_changed : (k : ℕ) → k < p - 1 → cell p z (row_at a k) (column_at a k) ≡ cell p x (row_at a k) (column_at a k) ⊕ X k
  nth_changed k q =
      let t = (nth_in p a k).0 (h, q) in
      added _ _ t.0 t.1 ∙ ap (λ (w : ℕ). cell p x (row_at a k) (column_at a k) ⊕ w) (along_nth a X k)

  -- so the tiles differ there exactly if that is not zero
  differs : (k : ℕ) → k < p - 1 → (X k ≡ 0 → ⊥) → DifferNth p a x z unchanged k
  differs k q d =
      let t = (nth_in p a k).0 (h, q) in
      record { row = t.0; column = t.1; bytes = λ e. d (cancel _ _ _ (sym (nth_changed k q) ∙ sym e ∙ sym (zero_r _))) }

  pub agrees : (k : ℕ) → (k < p - 1 → X k ≡ 0) → DifferNth p a x z unchanged k → ⊥
  agrees k e d =
      let q = ((nth_in p a k).1 (d.row, d.column)).1 in
      d.bytes (sym (nth_changed k q ∙ ap (λ (w : ℕ). cell p x (row_at a k) (column_at a k) ⊕ w) (e q) ∙ zero_r _))

-- a change that is nowhere is called clean, as nothing differs
pub called_none : (p : ℕ) (a : Line) (X : ℕ → ℕ) → ((j : ℕ) → 0 ≤ j → j < p - 1 → X j ≡ 0) → Called p a X Said.clean
called_none p a X none = record {
  names = λ x z h added hurt. absurd (hurt (λ i j d.
      agrees p a X x z h added (index a i j) (none _ (omega arith)) (nth_of p a x z (unchanged p a X x z h added) i j d)));
}

-- k is the first place that is changed, and then there may be a next one
module _ (p : ℕ) (a : Line) (X : ℕ → ℕ) (k : ℕ) (first : ChangedAt X 0 (p - 1) k) where
  -- if there is, the change is called by its line
  pub called_line : (second : Option ℕ) → NextChanged X (k + 1) (p - 1) second → is_some second ≡ true → Called p a X (line_said a)
  called_line None none e = cc
  called_line (Some m) second e = record {
    names = λ x z h added hurt.
        let t : Twice (p - 1) X = twice_changed first second in
        line_named a
        (in_more p a x z (unchanged p a X x z h added) t.one t.other t.apart (differs p a X x z h added t.one t.one_lt t.at_one)
        (differs p a X x z h added t.other t.other_lt t.at_other));
  }

  -- if there is none, by its cell
  pub called_cell : (second : Option ℕ) → NextChanged X (k + 1) (p - 1) second → is_some second ≡ false
      → Called p a X (Said.cell (row_at a k) (column_at a k))
  called_cell None none e = record {
    names = λ x z h added hurt.
        by_cell (in_one p a x z (unchanged p a X x z h added) k (differs p a X x z h added k first.high first.is) (λ o n.
        agrees p a X x z h added o (λ b. once_changed first none o b n)));
  }
  called_cell (Some m) second e = cc
