-- The laws of the sums of lines: linearity, the total, one cell of each column on each line, and closed under XOR. Cells are those
-- of any p rows and columns; `Padded` says that the last row and column are zeros. Assumes nothing.
use Rattle.std.specs.Prelude.{◌≡◌, refl, ◌≢◌, ◌⊎◌, Bool, true, false, ℕ, ◌+◌, ◌-◌, ◌*◌, ◌<◌, eqb}
use Rattle.std.proofs.Common.{sym, ap, ap₂, ◌∙◌, inl, inr, ⊎_elim, mod-lt, arith, eqb-true, eq-eqb}
use Rattle.std.proofs.Math.Decide.{ℕ_discrete}
use Rattle.xor.specs.Xor.{◌⊕◌, zero_l}
use Rattle.xor.specs.Sum.{xor_below, keep, keep_xor, keep_zero, keep_comm, keep_byte, bytes, ext, zeros, split, swap, single, one, at, odd}
use Rattle.residue.specs.Prime.{Prime, prime_odd}
use Rattle.residue.specs.Remainder.{same_step, before, before_lt, before_step}
use Rattle.code.specs.Tile.{Cells, line, sum, OneSum}

-- the last row and the last column are zeros
pub record Padded (p : ℕ) (T : Cells) : Type 0 where
  pub row : (j : ℕ) → j < p → T (p - 1) j ≡ 0
  pub column : (i : ℕ) → i < p → T i (p - 1) ≡ 0

-- the cells of two tiles are the same
abbrev pub Same : ℕ → Cells → Cells → Type 0
Same p T U = (i j : ℕ) → i < p → j < p → T i j ≡ U i j

-- the XOR of two tiles, cell by cell
abbrev pub plus : Cells → Cells → Cells
plus T U i j = T i j ⊕ U i j

-- ---- sums

pub sum_ext : (p s t : ℕ) (T U : Cells) → Same p T U → sum p s T t ≡ sum p s U t
unfolding sum
sum_ext p s t T U h = ext p _ _ (λ i l. ext p _ _ (λ j m. ap (keep (eqb (line p s i j) t)) (h i j l m)))

-- linearity
pub sum_plus : (p s t : ℕ) (T U : Cells) → sum p s (plus T U) t ≡ sum p s T t ⊕ sum p s U t
unfolding sum
sum_plus p s t T U =
    ext p _ _ (λ i l. ext p _ _ (λ j m. keep_xor (eqb (line p s i j) t) (T i j) (U i j)) ∙ split p _ _) ∙ split p _ _

-- a tile of zeros
pub sum_zeros : (p s t : ℕ) (T : Cells) → ((i j : ℕ) → i < p → j < p → T i j ≡ 0) → sum p s T t ≡ 0
unfolding sum
sum_zeros p s t T h = zeros p _ (λ i l. zeros p _ (λ j m. ap (keep (eqb (line p s i j) t)) (h i j l m) ∙ keep_zero (eqb (line p s i j) t)))

-- x in row i and column j, and zeros elsewhere: x is the sum of the line through that cell
abbrev pub lone : ℕ → ℕ → ℕ → Cells
lone i j x i' j' = keep (eqb i' i) (keep (eqb j' j) x)

pub sum_lone : (p s t i j x : ℕ) → i < p → j < p → sum p s (lone i j x) t ≡ keep (eqb (line p s i j) t) x
unfolding sum
sum_lone p s t i j x hi hj =
    ext p _ _ (λ i' l. ext p _ _ (λ j' m. keep_comm (eqb (line p s i' j') t) (eqb i' i) _ ∙ ap (keep (eqb i' i)) (keep_comm (eqb (line p s i' j') t) (eqb j' j) x) ∙ keep_comm (eqb i' i) (eqb j' j) _)
    ∙ one p j (λ j'. eqb j' j) (λ j'. keep (eqb i' i) (keep (eqb (line p s i' j') t) x)) hj (eq-eqb j j refl) (λ j' m e. eqb-true j' j e))
    ∙ one p i (λ i'. eqb i' i) (λ i'. keep (eqb (line p s i' j) t) x) hi (eq-eqb i i refl) (λ i' l e. eqb-true i' i e)

-- a sum of bytes is a byte
pub sum_byte : (p s t : ℕ) (T : Cells) → ((i j : ℕ) → T i j < 256) → sum p s T t < 256
unfolding sum
sum_byte p s t T h = bytes p _ (λ i l. bytes p _ (λ j m. keep_byte (eqb (line p s i j) t) (T i j) (h i j)))

-- the sums of every slope have one total, that of all cells: each cell is on one line of the slope
pub total : (p s : ℕ) (T : Cells) → xor_below p (sum p s T) ≡ xor_below p (λ i. xor_below p (T i))
unfolding sum
total p s T =
    swap p p _
    ∙ ext p _ _ (λ i l. swap p p _ ∙ ext p _ _ (λ j m. at p (line p s i j) (λ t. T i j) (mod-lt (i + s * j) (omega arith))))

pub totals : (p s s' : ℕ) (T : Cells) → xor_below p (sum p s T) ≡ xor_below p (sum p s' T)
totals p s s' T = total p s T ∙ sym (total p s' T)

-- one slope's sums are all b, the other's all b': then b and b' are one byte, as p is odd
pub same_byte : (p s s' b b' : ℕ) (T : Cells) → Prime p → 2 < p → ((t : ℕ) → t < p → sum p s T t ≡ b) → ((t : ℕ) → t < p → sum p s' T t ≡ b') → b ≡ b'
same_byte p s s' b b' T P two h h' = let o = prime_odd p P two in sym (odd p b _ o h) ∙ totals p s s' T ∙ odd p b' _ o h'

-- a line has one cell in each column: in column j the one in row t - s j. So the sums are those of the paper's (2) and (3)
pub sum_by_column : (p s t : ℕ) (T : Cells) → t < p → sum p s T t ≡ xor_below p (λ j. T (before p (s * j) t) j)
unfolding sum
sum_by_column p s t T h =
    swap p p _
    ∙ ext p _ _ (λ j l.
    let b : before p (s * j) t < p = before_lt p (s * j) t (omega arith) in
    one p (before p (s * j) t) (λ i. eqb (line p s i j) t) (λ i. T i j) b (eq-eqb (line p s (before p (s * j) t) j) t (before_step p (s * j) t h))
    (λ i q e. same_step p (s * j) i (before p (s * j) t) q b (eqb-true (line p s i j) t e ∙ sym (before_step p (s * j) t h))))

-- a line that meets what is not zero in the cell (i, j) alone
pub sum_meets : (p s t : ℕ) (T : Cells) (i j : ℕ) → i < p → j < p → line p s i j ≡ t
    → ((i' j' : ℕ) → i' < p → j' < p → line p s i' j' ≡ t → ((i' ≡ i) × (j' ≡ j)) ⊎ (T i' j' ≡ 0)) → sum p s T t ≡ T i j
unfolding sum
sum_meets p s t T i j hi hj e u =
    single p i (λ i'. xor_below p (λ j'. on i' j')) hi (λ i' l d. zeros p (on i') (λ j' m. off i' j' l m (λ q. d q.0)))
    ∙ single p j (on i) hj (λ j' m d. off i j' hi m (λ q. d q.1))
    ∙ rw (eq-eqb (line p s i j) t e)
  where
    on : Cells
    on i' j' = keep (eqb (line p s i' j') t) (T i' j')

    by : (b : Bool) (x : ℕ) → (b ≡ true → x ≡ 0) → keep b x ≡ 0
    by true x h = h refl
    by false x h = refl

    off : (i' j' : ℕ) → i' < p → j' < p → ((i' ≡ i) × (j' ≡ j) → ⊥) → on i' j' ≡ 0
    off i' j' l m d = by (eqb (line p s i' j') t) (T i' j') (λ q. ⊎_elim (λ w. absurd (d w)) (λ z. z) (u i' j' l m (eqb-true (line p s i' j') t q)))

-- in a tile that is zero outside column c, a line's sum is the cell in which it meets the column
pub sum_column : (p s c i : ℕ) (T : Cells) → ((i j : ℕ) → i < p → j < p → j ≢ c → T i j ≡ 0) → c < p → i < p → sum p s T (line p s i c) ≡ T i c
sum_column p s c i T h hc hi = sum_meets p s (line p s i c) T i c hi hc refl (λ i' j' l m e. go i' j' l m e (ℕ_discrete j' c))
  where
    go : (i' j' : ℕ) → i' < p → j' < p → line p s i' j' ≡ line p s i c → Dec (j' ≡ c) → ((i' ≡ i) × (j' ≡ c)) ⊎ (T i' j' ≡ 0)
    go i' j' l m e (yes q) = inl (same_step p (s * c) i' i l hi (rw q at e), q)
    go i' j' l m e (no d) = inr (h i' j' l m d)

-- ---- tiles whose sums are one byte

-- good tiles are closed under XOR
pub one_sum_plus : (p l : ℕ) (T U : Cells) → OneSum p l T → OneSum p l U → OneSum p l (plus T U)
one_sum_plus p l T U g h = record {
  common = g.common ⊕ h.common;
  first = λ t q. sum_plus p 1 t T U ∙ ap₂ ◌⊕◌ (g.first t q) (h.first t q);
  second = λ t q. sum_plus p l t T U ∙ ap₂ ◌⊕◌ (g.second t q) (h.second t q);
}

pub one_sum_ext : (p l : ℕ) (T U : Cells) → Same p T U → OneSum p l T → OneSum p l U
one_sum_ext p l T U e g = record {
  common = g.common;
  first = λ t q. sym (sum_ext p 1 t T U e) ∙ g.first t q;
  second = λ t q. sym (sum_ext p l t T U e) ∙ g.second t q;
}

pub padded_plus : (p : ℕ) (T U : Cells) → Padded p T → Padded p U → Padded p (plus T U)
padded_plus p T U a b = record {
  row = λ j h. ap₂ ◌⊕◌ (a.row j h) (b.row j h) ∙ zero_l 0;
  column = λ i h. ap₂ ◌⊕◌ (a.column i h) (b.column i h) ∙ zero_l 0;
}
