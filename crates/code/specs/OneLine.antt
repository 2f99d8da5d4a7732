-- One hurt line: a line's change settles the sums A and B exactly if they agree along the line, and then the change is the shifted
-- sum with the common byte taken off, the sum through the line's added zero (SPEC 5.8). Shown for columns, carried to rows by turning.
-- Assumes nothing.
use Rattle.std.specs.Prelude.{◌≡◌, refl, ℕ, ◌-◌, ◌*◌, ◌%◌, ◌<◌, eqb}
use Rattle.std.proofs.Common.{sym, ap, ap₂, ◌∙◌, mod-lt, arith, eq-eqb, ne_eqb}
use Rattle.xor.specs.Xor.{◌⊕◌, xors, from₂, again}
use Rattle.xor.specs.Sum.{keep, keep_byte, keep_zero}
use Rattle.residue.specs.Remainder.{before, before_lt, before_step}
use Rattle.code.specs.Tile.{Cells, line, sum, On}
use Rattle.code.specs.Sums.{Padded, sum_column}
use Rattle.code.specs.Settle.{Settles, settles_ext}
use Rattle.code.specs.Turn.{turned, turned_line, settles_turned, turned_settles}
use Rattle.code.specs.declared.Line.{Line}
use Rattle.code.specs.declared.Line.TheVariants.{Row, Column}

-- SPEC 3.4: the number of a line, row or column
abbrev pub number : Line → ℕ
number (Row r) = r
number (Column c) = c

-- where the k-th cell of a line stands
abbrev pub row_at : Line → ℕ → ℕ
row_at (Row r) k = r
row_at (Column c) k = k

abbrev pub column_at : Line → ℕ → ℕ
column_at (Row r) k = k
column_at (Column c) k = c

-- the k-th cell of a line, and the number of the slope-s line through it
abbrev pub nth : Line → Cells → ℕ → ℕ
nth a D k = D (row_at a k) (column_at a k)

abbrev pub through : ℕ → ℕ → Line → ℕ → ℕ
through p s a k = line p s (row_at a k) (column_at a k)

-- the tile with x k in the k-th cell of a line, and zeros elsewhere
abbrev pub along : Line → (ℕ → ℕ) → Cells
along (Row r) x i j = keep (eqb i r) (x j)
along (Column c) x i j = keep (eqb j c) (x i)

-- a tile that is zero outside a line
abbrev pub ZeroOff : ℕ → Line → Cells → Type 0
ZeroOff p a D = (i j : ℕ) → i < p → j < p → (On a i j → ⊥) → D i j ≡ 0

-- the sums of both slopes through each cell of the line are equal
abbrev pub Agree : ℕ → ℕ → (ℕ → ℕ) → (ℕ → ℕ) → Line → Type 0
Agree p l A B a = (k : ℕ) → k < p → A (through p 1 a k) ≡ B (through p l a k)

-- the shifted sum, with the common byte taken off
abbrev pub shifted : ℕ → (ℕ → ℕ) → Line → ℕ → ℕ
shifted p A a k = A (through p 1 a k) ⊕ A (through p 1 a (p - 1))

pub along_off : (p : ℕ) (a : Line) (x : ℕ → ℕ) → ZeroOff p a (along a x)
along_off p (Row r) x i j hi hj d = rw (ne_eqb i r d)
along_off p (Column c) x i j hi hj d = rw (ne_eqb j c d)

pub along_nth : (a : Line) (x : ℕ → ℕ) (k : ℕ) → nth a (along a x) k ≡ x k
along_nth (Row r) x k = rw (eq-eqb r r refl)
along_nth (Column c) x k = rw (eq-eqb c c refl)

pub along_ext : (p : ℕ) (a : Line) (x y : ℕ → ℕ) → ((k : ℕ) → k < p → x k ≡ y k) → (i j : ℕ) → i < p → j < p → along a x i j ≡ along a y i j
along_ext p (Row r) x y h i j hi hj = ap (keep (eqb i r)) (h j hj)
along_ext p (Column c) x y h i j hi hj = ap (keep (eqb j c)) (h i hi)

pub along_padded : (p : ℕ) (a : Line) (x : ℕ → ℕ) → number a < p - 1 → x (p - 1) ≡ 0 → Padded p (along a x)
along_padded p (Row r) x h e = record { row = λ j q. rw (ne_eqb (p - 1) r (omega arith)); column = λ i q. rw (e, keep_zero) }
along_padded p (Column c) x h e = record { row = λ j q. rw (e, keep_zero); column = λ i q. rw (ne_eqb (p - 1) c (omega arith)) }

pub along_byte : (a : Line) (x : ℕ → ℕ) → ((k : ℕ) → x k < 256) → (i j : ℕ) → along a x i j < 256
along_byte (Row r) x h i j = keep_byte (eqb i r) (x j) (h j)
along_byte (Column c) x h i j = keep_byte (eqb j c) (x i) (h i)

-- ---- columns

module _ (p l : ℕ) (A B : ℕ → ℕ) (c : ℕ) (hc : c < p) where
  module _ (D : Cells) (g : Settles p l A B D) (off : ZeroOff p (Column c) D) where
    -- what the slope-s line through the cell i says of the change there
    at_cell : (s : ℕ) (S : ℕ → ℕ) → ((t : ℕ) → t < p → S t ⊕ sum p s D t ≡ g.common) → (i : ℕ) → i < p → S (line p s i c) ⊕ D i c ≡ g.common
    at_cell s S h i hi = ap (λ (x : ℕ). S (line p s i c) ⊕ x) (sym (sum_column p s c i D off hc hi)) ∙ h (line p s i c) (mod-lt _ (omega arith))

    column_agrees : Agree p l A B (Column c)
    column_agrees i hi = from₂ (at_cell 1 A g.first i hi) (at_cell l B g.second i hi) (simp xors)

    column_change : D (p - 1) c ≡ 0 → (i : ℕ) → i < p → D i c ≡ shifted p A (Column c) i
    column_change z i hi = from₂ (at_cell 1 A g.first i hi) (at_cell 1 A g.first (p - 1) (omega arith)) (rw z (simp xors))

  -- the sums of slope s, if they are those of slope 1 along the column: the change makes each the common byte
  made : (s : ℕ) (S : ℕ → ℕ) → ((i : ℕ) → i < p → A (line p 1 i c) ≡ S (line p s i c)) → (t : ℕ) → t < p
      → S t ⊕ sum p s (along (Column c) (shifted p A (Column c))) t ≡ A (line p 1 (p - 1) c)
  made s S e t ht = rw (before_step p (s * c) t ht) at through_column
    where
      i : ℕ
      i = before p (s * c) t

      hi : i < p
      hi = before_lt p (s * c) t (omega arith)

      D : Cells
      D = along (Column c) (shifted p A (Column c))

      through_column : S (line p s i c) ⊕ sum p s D (line p s i c) ≡ A (line p 1 (p - 1) c)
      through_column =
          ap₂ ◌⊕◌ (sym (e i hi)) (sum_column p s c i D (along_off p (Column c) (shifted p A (Column c))) hc hi ∙ along_nth (Column c) (shifted p A (Column c)) i)
          ∙ again _ _

  column_settles : Agree p l A B (Column c) → Settles p l A B (along (Column c) (shifted p A (Column c)))
  column_settles e = record { common = A (line p 1 (p - 1) c); first = made 1 A (λ i h. refl); second = made l B e }

-- ---- any line

-- m is the inverse of the slope l (which only rows ask for)
module _ (p l m : ℕ) (inverse : l * m % p ≡ 1) (A B : ℕ → ℕ) where
  -- the sums of the turned tile
  abbrev B' : ℕ → ℕ
  B' t = B (l * t % p)

  pub first_turned : (r k : ℕ) → A (line p 1 k r) ≡ A (line p 1 r k)
  first_turned r k = ap (λ (x : ℕ). A (x % p)) (omega arith)

  pub second_turned : (r k : ℕ) → B' (line p m k r) ≡ B (line p l r k)
  second_turned r k = ap B (turned_line p l m inverse k r)

  pub one_line_agrees : (a : Line) (D : Cells) → number a < p → Settles p l A B D → ZeroOff p a D → Agree p l A B a
  one_line_agrees (Column c) D h g off = column_agrees p l A B c h D g off
  one_line_agrees (Row r) D h g off = λ k hk.
      sym (first_turned r k) ∙ column_agrees p m A B' r h (turned D) (settles_turned p l m inverse A B D g) (λ i j hi hj d. off j i hj hi d) k hk ∙ second_turned r k

  pub one_line_change : (a : Line) (D : Cells) → number a < p → Settles p l A B D → ZeroOff p a D → Padded p D
      → (k : ℕ) → k < p → nth a D k ≡ shifted p A a k
  one_line_change (Column c) D h g off z k hk = column_change p l A B c h D g off (z.row c h) k hk
  one_line_change (Row r) D h g off z k hk =
      column_change p m A B' r h (turned D) (settles_turned p l m inverse A B D g) (λ i j hi hj d. off j i hj hi d) (z.column r h) k hk
      ∙ ap₂ ◌⊕◌ (first_turned r k) (first_turned r (p - 1))

  pub one_line_settles : (a : Line) → number a < p → Agree p l A B a → Settles p l A B (along a (shifted p A a))
  one_line_settles (Column c) h e = column_settles p l A B c h e
  one_line_settles (Row r) h e =
      settles_ext p l A B (turned (along (Column r) (shifted p A (Column r)))) (along (Row r) (shifted p A (Row r)))
      (λ i j hi hj. ap (keep (eqb i r)) (ap₂ ◌⊕◌ (first_turned r j) (first_turned r (p - 1))))
      (turned_settles p l m inverse A B (turned (along (Column r) (shifted p A (Column r))))
      (column_settles p m A B' r h (λ k hk. first_turned r k ∙ e k hk ∙ sym (second_turned r k))))
