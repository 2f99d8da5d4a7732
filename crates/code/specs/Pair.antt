-- A hurt column together with a second hurt line, a column or a row. From a cell of the column the slope-1 line leads to a cell of the
-- second line, and from there the slope-l line leads back to the column:
--
--     column:   walk 0        walk 1        walk 2   ..
--                    \ 1    / l    \ 1    / l
--     line b:         stop 0        stop 1   ..
--
-- Where these hops pass every cell that is asked for, the change in the column is handed on along them from the added zero (`Chain`),
-- and the second line then settles what is left as one hurt line does (`OneLine`). Assumes nothing.
use Rattle.std.specs.Prelude.{◌≡◌, refl, ◌≢◌, Bool, false, not, ℕ, ◌+◌, ◌-◌, ◌*◌, ◌%◌, ◌<◌, eqb}
use Rattle.std.proofs.Common.{sym, ap, ap₂, ◌∙◌, eq-eqb, ne_eqb}
use Rattle.std.proofs.Math.Decide.{ℕ_discrete}
use Rattle.xor.specs.Xor.{◌⊕◌, xors, zero_l, self, byte, from₂}
use Rattle.xor.specs.Sum.{keep, keep_zero}
use Rattle.code.specs.Tile.{Cells, line, OneSum, On}
use Rattle.code.specs.Sums.{Padded, plus, padded_plus, sum_column, sum_byte}
use Rattle.code.specs.Settle.{Settles, after, settles_ext, settles_plus, plus_settles, good_settles_zero}
use Rattle.code.specs.OneLine.{number, row_at, column_at, nth, through, along, ZeroOff, Agree, shifted, along_off, along_nth, along_padded, along_byte, one_line_agrees, one_line_change, one_line_settles}
use Rattle.code.specs.Chain.{Round, Chain, chain_zero}
use Rattle.code.specs.declared.Line.{Line}
use Rattle.code.specs.declared.Line.TheVariants.{Row, Column}

-- a tile that is zero outside two lines
abbrev pub ZeroOffBoth : ℕ → Line → Line → Cells → Type 0
ZeroOffBoth p a b D = (i j : ℕ) → i < p → j < p → (On a i j → ⊥) → (On b i j → ⊥) → D i j ≡ 0

-- the hops between column c and the line b, as drawn above: they start at the added zero of the column, pass each of its rows that is
-- not on b, and stop in each cell of b that is not on the column
pub record Hops (p l c : ℕ) (b : Line) (n : ℕ) (walk stop : ℕ → ℕ) : Type 0 where
  pub round : Round n walk
  pub start : walk 0 ≡ p - 1
  pub row : (k : ℕ) → walk k < p
  pub cell : (k : ℕ) → stop k < p
  -- there by slope 1, and back by slope l
  pub first : (k : ℕ) → through p 1 b (stop k) ≡ line p 1 (walk k) c
  pub second : (k : ℕ) → through p l b (stop k) ≡ line p l (walk (k + 1)) c
  -- what is passed
  pub rows : (i : ℕ) → i < p → (On b i c → ⊥) → (k : ℕ) × (k < n) × (walk k ≡ i)
  pub stops : (j : ℕ) → j < p → column_at b j ≢ c → (k : ℕ) × (k < n) × (stop k ≡ j)
  -- no stop is in the crossing
  pub clear : (k : ℕ) → column_at b (stop k) ≢ c

-- what a step of the chain adds: the two sums along the hop
abbrev pub hop : ℕ → ℕ → (ℕ → ℕ) → (ℕ → ℕ) → ℕ → (ℕ → ℕ) → ℕ → ℕ
hop p l A B c walk k = A (line p 1 (walk k) c) ⊕ B (line p l (walk (k + 1)) c)

-- where the line b crosses column c, the two sums through the crossing are equal
abbrev pub CrossingAgrees : ℕ → ℕ → (ℕ → ℕ) → (ℕ → ℕ) → ℕ → Line → Type 0
CrossingAgrees p l A B c b = (j : ℕ) → j < p → column_at b j ≡ c → A (through p 1 b j) ≡ B (through p l b j)

-- the sums that are left once x is added to column c
abbrev pub left : ℕ → ℕ → (ℕ → ℕ) → ℕ → (ℕ → ℕ) → ℕ → ℕ
left p s S c x = after p s S (along (Column c) x)

-- the change: x in column c, and in b what then settles all
abbrev pub change : ℕ → (ℕ → ℕ) → ℕ → Line → (ℕ → ℕ) → Cells
change p A c b x = plus (along (Column c) x) (along b (shifted p (left p 1 A c x) b))

row_lt : (p : ℕ) (b : Line) (j : ℕ) → number b < p → j < p → row_at b j < p
row_lt p (Row r) j h k = h
row_lt p (Column v) j h k = k

-- ---- the test whether a cell is on a line

abbrev on : Line → ℕ → ℕ → Bool
on (Row r) i j = eqb i r
on (Column c) i j = eqb j c

off_line : (b : Line) (i j : ℕ) → (On b i j → ⊥) → on b i j ≡ false
off_line (Row r) i j d = ne_eqb i r d
off_line (Column c) i j d = ne_eqb j c d

on_line : (b : Line) (i j : ℕ) → Dec (On b i j)
on_line (Row r) i j = ℕ_discrete i r
on_line (Column c) i j = ℕ_discrete j c

module _ (p l m : ℕ) (inverse : l * m % p ≡ 1) (A B : ℕ → ℕ) (c : ℕ) (hc : c < p) (b : Line) (hb : number b < p) where
  -- the sum left on a line through the column
  left_at : (s : ℕ) (S x : ℕ → ℕ) (i : ℕ) → i < p → left p s S c x (line p s i c) ≡ S (line p s i c) ⊕ x i
  left_at s S x i hi =
      ap (λ (y : ℕ). S (line p s i c) ⊕ y) (sum_column p s c i (along (Column c) x) (along_off p (Column c) x) hc hi ∙ along_nth (Column c) x i)

  -- .. also where b crosses the column
  pub left_crossing : (s : ℕ) (S x : ℕ → ℕ) (j : ℕ) → j < p → column_at b j ≡ c → left p s S c x (through p s b j) ≡ S (through p s b j) ⊕ x (row_at b j)
  left_crossing s S x j hj e = rw e (left_at s S x (row_at b j) (row_lt p b j hb hj))

  -- ---- what a change that settles all says of its column

  -- the change in the column, but for where b crosses it
  abbrev own : Cells → ℕ → ℕ
  own D i = keep (not (on b i c)) (D i c)

  own_off : (D : Cells) (i : ℕ) → (On b i c → ⊥) → own D i ≡ D i c
  own_off D i d = rw (off_line b i c d)

  pub pair_agrees : (D : Cells) → Settles p l A B D → ZeroOffBoth p (Column c) b D → Agree p l (left p 1 A c (own D)) (left p l B c (own D)) b
  pair_agrees D g off =
      one_line_agrees p l m inverse (left p 1 A c (own D)) (left p l B c (own D)) b E hb
      (plus_settles p l A B D₁ E (settles_ext p l A B D (plus D₁ E) (λ i j hi hj. simp xors) g)) E_off
    where
      D₁ : Cells
      D₁ = along (Column c) (own D)

      E : Cells
      E = plus D D₁

      E_off : ZeroOff p b E
      E_off i j hi hj d = go (ℕ_discrete j c)
        where
          go : Dec (j ≡ c) → E i j ≡ 0
          go (yes e) = rw (e, eq-eqb c c refl) (ap (λ (y : ℕ). D i c ⊕ y) (own_off D i (rw e at d)) ∙ self (D i c))
          go (no q) = rw (ne_eqb j c q, off i j hi hj q d) (zero_l 0)

  -- so a filling needs that the sums agree where b crosses the column
  pub pair_crossing : (D : Cells) → Settles p l A B D → ZeroOffBoth p (Column c) b D → CrossingAgrees p l A B c b
  pair_crossing D g off j hj e =
      from₂ (pair_agrees D g off j hj) (ap₂ ◌⊕◌ (left_crossing 1 A (own D) j hj e) (left_crossing l B (own D) j hj e)) (simp xors)

  module _ (n : ℕ) (walk stop : ℕ → ℕ) (hops : Hops p l c b n walk stop) where
    -- the sums that are left on the two lines of a hop
    pub first_left : (x : ℕ → ℕ) (k : ℕ) → left p 1 A c x (through p 1 b (stop k)) ≡ A (line p 1 (walk k) c) ⊕ x (walk k)
    first_left x k = rw (hops.first k) (left_at 1 A x (walk k) (hops.row k))

    second_left : (x : ℕ → ℕ) (k : ℕ) → left p l B c x (through p l b (stop k)) ≡ B (line p l (walk (k + 1)) c) ⊕ x (walk (k + 1))
    second_left x k = rw (hops.second k) (left_at l B x (walk (k + 1)) (hops.row (k + 1)))

    -- what the change is on b: the sum on the line from the column, with the column's own change and the common byte taken off
    pub line_symbol : (x : ℕ → ℕ) (k : ℕ)
        → shifted p (left p 1 A c x) b (stop k) ≡ A (line p 1 (walk k) c) ⊕ x (walk k) ⊕ left p 1 A c x (through p 1 b (p - 1))
    line_symbol x k = ap (λ (y : ℕ). y ⊕ left p 1 A c x (through p 1 b (p - 1))) (first_left x k)

    -- where b can settle what is left, the change in the column is handed on along the hops; and the reverse, where the sums in a
    -- crossing agree
    agree_chain : (x : ℕ → ℕ) → x (p - 1) ≡ 0 → Agree p l (left p 1 A c x) (left p l B c x) b → Chain n walk (hop p l A B c walk) x
    agree_chain x z e = record {
      start = ap x hops.start ∙ z;
      next = λ k h. from₂ (e (stop k) (hops.cell k)) (ap₂ ◌⊕◌ (first_left x k) (second_left x k)) (simp xors);
    }

    chain_agree : (x : ℕ → ℕ) → Chain n walk (hop p l A B c walk) x → CrossingAgrees p l A B c b → Agree p l (left p 1 A c x) (left p l B c x) b
    chain_agree x h m j hj = go (ℕ_discrete (column_at b j) c)
      where
        stopped : (k : ℕ) → k < n → left p 1 A c x (through p 1 b (stop k)) ≡ left p l B c x (through p l b (stop k))
        stopped k l = from₂ (h.next k l) (ap₂ ◌⊕◌ (first_left x k) (second_left x k)) (simp xors)

        go : Dec (column_at b j ≡ c) → left p 1 A c x (through p 1 b j) ≡ left p l B c x (through p l b j)
        go (yes e) = from₂ (m j hj e) (ap₂ ◌⊕◌ (left_crossing 1 A x j hj e) (left_crossing l B x j hj e)) (simp xors)
        go (no d) = let t = hops.stops j hj d in rw t.2 at (stopped t.0 t.1)

    -- EXISTENCE: a chain in the column, with what it leaves to b, settles all
    pub pair_settles : (x : ℕ → ℕ) → Chain n walk (hop p l A B c walk) x → CrossingAgrees p l A B c b → Settles p l A B (change p A c b x)
    pair_settles x h e =
        settles_plus p l A B (along (Column c) x) (along b (shifted p (left p 1 A c x) b))
        (one_line_settles p l m inverse (left p 1 A c x) (left p l B c x) b hb (chain_agree x h e))

-- UNIQUENESS: a good tile that is zero outside one line is zero ..
pub line_zero : (p l m : ℕ) (b : Line) (D : Cells) → l * m % p ≡ 1 → number b < p → OneSum p l D → Padded p D → ZeroOff p b D
    → (i j : ℕ) → i < p → j < p → D i j ≡ 0
line_zero p l m b D inverse hb good padded off i j hi hj = go (on_line b i j)
  where
    on_b : (k : ℕ) → k < p → nth b D k ≡ 0
    on_b k hk = one_line_change p l m inverse (λ t. 0) (λ t. 0) b D hb (good_settles_zero p l D good) off padded k hk ∙ self 0

    at : (a : Line) → ((k : ℕ) → k < p → nth a D k ≡ 0) → On a i j → D i j ≡ 0
    at (Row r) h e = rw e (h j hj)
    at (Column v) h e = rw e (h i hi)

    go : Dec (On b i j) → D i j ≡ 0
    go (yes o) = at b on_b o
    go (no d) = off i j hi hj d

-- .. and so is one that is zero outside a column and a second line, where the hops pass all
pub pair_zero : (p l m c : ℕ) (b : Line) (n : ℕ) (walk stop : ℕ → ℕ) (D : Cells) → l * m % p ≡ 1 → c < p → number b < p → Hops p l c b n walk stop
    → OneSum p l D → Padded p D → ZeroOffBoth p (Column c) b D → (i j : ℕ) → i < p → j < p → D i j ≡ 0
pair_zero p l m c b n walk stop D inverse hc hb hops good padded off = line_zero p l m b D inverse hb good padded D_off
  where
    none : ℕ → ℕ
    none t = 0

    x : ℕ → ℕ
    x = own p l m inverse none none c hc b hb D

    chain : Chain n walk (hop p l none none c walk) x
    chain =
        agree_chain p l m inverse none none c hc b hb n walk stop hops x (rw (padded.row c hc) (keep_zero (not (on b (p - 1) c))))
        (pair_agrees p l m inverse none none c hc b hb D (good_settles_zero p l D good) off)

    column : (i : ℕ) → i < p → (On b i c → ⊥) → D i c ≡ 0
    column i hi d =
        let t = hops.rows i hi d in
        sym (own_off p l m inverse none none c hc b hb D i d) ∙ ap x (sym t.2) ∙ chain_zero n walk (hop p l none none c walk) x chain (λ k h. self 0) t.0 t.1

    D_off : ZeroOff p b D
    D_off i j hi hj d = go (ℕ_discrete j c)
      where
        go : Dec (j ≡ c) → D i j ≡ 0
        go (yes e) = rw e (column i hi (rw e at d))
        go (no q) = off i j hi hj q d

-- ---- what the change is besides

pub change_padded : (p : ℕ) (A : ℕ → ℕ) (c : ℕ) (b : Line) (x : ℕ → ℕ) → c < p - 1 → number b < p - 1 → x (p - 1) ≡ 0 → Padded p (change p A c b x)
change_padded p A c b x hc hb z = padded_plus p _ _ (along_padded p (Column c) x hc z) (along_padded p b _ hb (self _))

pub change_off : (p : ℕ) (A : ℕ → ℕ) (c : ℕ) (b : Line) (x : ℕ → ℕ) → ZeroOffBoth p (Column c) b (change p A c b x)
change_off p A c b x i j hi hj d e =
    ap₂ ◌⊕◌ (along_off p (Column c) x i j hi hj d) (along_off p b (shifted p (left p 1 A c x) b) i j hi hj e) ∙ zero_l 0

pub change_byte : (p : ℕ) (A : ℕ → ℕ) (c : ℕ) (b : Line) (x : ℕ → ℕ) → ((t : ℕ) → A t < 256) → ((k : ℕ) → x k < 256) → (i j : ℕ) → change p A c b x i j < 256
change_byte p A c b x ha hx i j = byte _ _ (column i j) (along_byte b _ (λ k. byte _ _ (rest _) (rest _)) i j)
  where
    column : (i j : ℕ) → along (Column c) x i j < 256
    column = along_byte (Column c) x hx

    rest : (t : ℕ) → left p 1 A c x t < 256
    rest t = byte _ _ (ha t) (sum_byte p 1 t (along (Column c) x) column)
