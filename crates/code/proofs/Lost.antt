-- WHICH LINES OF A TILE MAY BE LOST (SPEC 4.6): two rows and two columns at every slope, a row with a column exactly if the powers of the
-- slope reach all, and three lines never. So at an allowed slope the margin is two lines: Theorem 3.1 of the paper, both ways. Assumes nothing.
use Rattle.std.specs.Prelude.{◌≡◌, refl, ◌≢◌, ◌⊎◌, ◌↔◌, List, ℕ, ◌-◌, ◌<◌, eqb, length}
use Rattle.std.proofs.Common.{sym, ap, ◌∙◌, inl, inr, ⊎_elim, arith, eq-eqb, ne_eqb}
use Rattle.std.proofs.Math.Decide.{ℕ_discrete}
use Rattle.xor.specs.Xor.{◌⊕◌, cancel, zero_r, byte}
use Rattle.xor.specs.Sum.{keep_zero, keep_byte}
use Rattle.residue.specs.Search.{some_or_none}
use Rattle.residue.specs.Power.{ReachesAll}
use Rattle.residue.specs.Order.{reaches_or_misses}
use Rattle.residue.specs.Size.{Size, Allowed}
use Rattle.code.specs.Slope.{Slope, allowed_slope, slope_pos}
use Rattle.code.specs.Tile.{Cells, tile_length, cell, sum, Good, text_of, Writes, On, EqualOutsideBoth, Differ, Bytes}
use Rattle.code.specs.Margin.{TwoGood, DifferOutside, MayLose, EqualOutsideThree, Another, WithinThree, MarginOfTwo}
use Rattle.code.specs.Sums.{plus, lone, sum_zeros}
use Rattle.code.specs.Place.{cell_byte, tile_of, tile_length_lem, tile_in, tile_cells, tile_bytes_lem}
use Rattle.code.specs.OneLine.{number, row_at, column_at}
use Rattle.code.specs.Differ.{on_or_off, differ_or_not, agree_at, nth_in}
use Rattle.code.specs.Distance.{Parallel, parallel_or_not, one_parallel, equal_tiles}
use Rattle.code.specs.Filling.{Filled, parallel_filled}
use Rattle.code.specs.Doubtful.{second_filling}
use Rattle.code.specs.Fillings.{Sure}
use Rattle.code.specs.Writing.{written_once}
use Rattle.code.specs.declared.Line.{Line}
use Rattle.code.specs.declared.Line.TheVariants.{Row, Column}

-- ---- two lines

-- tiles that differ in a cell outside two lines do not agree outside them
pub differ_not_agree : {p : ℕ} {a b : Line} {x y : List ℕ} → DifferOutside p a b x y → EqualOutsideBoth p a b x y → ⊥
differ_not_agree d same = d.here.bytes (same _ _ d.here.row d.here.column d.off d.off_other)

-- and they do one or the other: all cells are looked at
pub differ_or_agree : (p : ℕ) (a b : Line) (x y : List ℕ) → (DifferOutside p a b x y) ⊎ (EqualOutsideBoth p a b x y)
differ_or_agree p a b x y = ⊎_elim
    (λ t. let c = t.2 in inl (record { row = t.0; column = c.0; here = c.2.0; off = c.2.1; off_other = c.2.2 }))
    (λ none. inr (λ i j hi hj d e. agree_at p x y i j hi hj (λ q. none i hi (j, hj, (q, d, e)))))
    (some_or_none InRow in_row (p - 1))
  where
    Here : ℕ → ℕ → Type 0
    Here i j = Differ p x y i j × (On a i j → ⊥) × (On b i j → ⊥)

    InRow : ℕ → Type 0
    InRow i = (j : ℕ) × (j < p - 1) × Here i j

    here : (i j : ℕ) → Dec (Here i j)
    here i j = go (differ_or_not p x y i j) (on_or_off a i j) (on_or_off b i j)
      where
        go : Dec (Differ p x y i j) → Dec (On a i j) → Dec (On b i j) → Dec (Here i j)
        go (no d) s t = no (λ h. d h.0)
        go (yes d) (yes s) t = no (λ h. h.1 s)
        go (yes d) (no s) (yes t) = no (λ h. h.2 t)
        go (yes d) (no s) (no t) = yes (d, s, t)

    in_row : (i : ℕ) → Dec (InRow i)
    in_row i = ⊎_elim yes (λ none. no (λ h. none h.0 h.1 h.2)) (some_or_none (Here i) (here i) (p - 1))

-- two rows and two columns may be lost at every slope, and where the powers reach all any two lines
pub sure_lost : (p l : ℕ) (a b : Line) → Slope p l → Sure p l a b → MayLose p l a b
sure_lost p l a b S sure x y t = ⊎_elim (λ d. d)
    (λ same. absurd (t.apart (equal_tiles p l a b x y S sure t.size t.size_other t.good t.good_other same)))
    (differ_or_agree p a b x y)

-- A ROW WITH A COLUMN MAY NOT BE LOST where the powers miss a remainder: whichever they are, each good tile has another one that agrees with
-- it outside them
pub crossed_lost : (p l s t : ℕ) (x : List ℕ) → Slope p l → (ReachesAll p l → ⊥) → s < p - 1 → t < p - 1 → length x ≡ tile_length p → Good p l x
    → Another p l x (EqualOutsideBoth p (Row s) (Column t) x)
crossed_lost p l s t x S miss hs ht e g =
    let z = second_filling p l s t x x S miss hs ht (record { size = e; good = g; agrees = λ i j hi hj d q. refl }) in
    record {
      tile = z.0;
      two = record { size = e; size_other = z.1.size; good = g; good_other = z.1.good; apart = λ q. z.2 (sym q) };
      agrees = λ i j hi hj d q. z.1.agrees i j hi hj q d;
      bytes = z.3;
    }

-- ---- three lines

-- 1 in one cell, and 0 in every other
lone_here : (i j : ℕ) → lone i j 1 i j ≡ 1
lone_here i j = rw (eq-eqb i i refl, eq-eqb j j refl)

lone_off : (i j r k : ℕ) → ((r ≡ i) × (k ≡ j) → ⊥) → lone i j 1 r k ≡ 0
lone_off i j r k d = go (ℕ_discrete r i) (ℕ_discrete k j)
  where
    go : Dec (r ≡ i) → Dec (k ≡ j) → lone i j 1 r k ≡ 0
    go (yes e) (yes f) = absurd (d (e, f))
    go (yes e) (no f) = rw (ne_eqb k j f) (keep_zero (eqb r i))
    go (no e) f = rw (ne_eqb r i e)

lone_byte : (i j r k : ℕ) → lone i j 1 r k < 256
lone_byte i j r k = keep_byte (eqb r i) _ (keep_byte (eqb k j) 1 (omega arith))

-- two tiles agree outside two lines and the cell (i, j)
abbrev pub EqualBut : ℕ → Line → Line → ℕ → ℕ → List ℕ → List ℕ → Type 0
EqualBut p a b i j x y =
    (r k : ℕ) → r < p - 1 → k < p - 1 → (On a r k → ⊥) → (On b r k → ⊥) → ((r ≡ i) × (k ≡ j) → ⊥) → cell p x r k ≡ cell p y r k

-- ONE CELL that is on neither of two parallel lines can be changed in every good tile, which stays good if these lines are filled anew
pub cell_changed : (p l : ℕ) (a b : Line) (i j : ℕ) (x : List ℕ) → Slope p l → Parallel a b → number a ≢ number b → number a < p - 1 → number b < p - 1
    → i < p - 1 → j < p - 1 → (On a i j → ⊥) → (On b i j → ⊥) → length x ≡ tile_length p → Good p l x → Another p l x (EqualBut p a b i j x)
cell_changed p l a b i j x S side d ha hb hi hj oa ob e g = record {
  tile = f.0;
  two = record { size = e; size_other = f.1.size; good = g; good_other = f.1.good; apart = λ q. moved (here ∙ ap (λ (z : List ℕ). cell p z i j) (sym q)) };
  agrees = λ r k hr hk da db n. sym (zero_r _) ∙ ap (λ (z : ℕ). cell p x r k ⊕ z) (sym (lone_off i j r k n)) ∙ kept r k hr hk da db;
  bytes = λ h. f.2 (tile_bytes_lem p U (λ r k. byte _ _ (cell_byte p x h r k) (lone_byte i j r k)));
}
  where
    U : Cells
    U = plus (cell p x) (lone i j 1)

    f : Filled p l a b (tile_of p U)
    f = parallel_filled p l a b (tile_of p U) S side d ha hb

    kept : (r k : ℕ) → r < p - 1 → k < p - 1 → (On a r k → ⊥) → (On b r k → ⊥) → U r k ≡ cell p f.0 r k
    kept r k hr hk da db = sym (tile_in p U r k hr hk) ∙ f.1.agrees r k hr hk da db

    here : cell p x i j ⊕ 1 ≡ cell p f.0 i j
    here = ap (λ (z : ℕ). cell p x i j ⊕ z) (sym (lone_here i j)) ∙ kept i j hi hj oa ob

    moved : cell p x i j ⊕ 1 ≡ cell p x i j → ⊥
    moved q = omega (arith, cancel (cell p x i j) 1 0 (q ∙ sym (zero_r _)))

-- a number below 3 that is neither of two
neither : (m n : ℕ) → (k : ℕ) × (k < 3) × (k ≢ m) × (k ≢ n)
neither m n = go (ℕ_discrete m 0) (ℕ_discrete n 0) (ℕ_discrete m 1) (ℕ_discrete n 1)
  where
    go : Dec (m ≡ 0) → Dec (n ≡ 0) → Dec (m ≡ 1) → Dec (n ≡ 1) → (k : ℕ) × (k < 3) × (k ≢ m) × (k ≢ n)
    go (no d) (no e) f g = (0, omega arith, omega arith, omega arith)
    go (yes d) e f (no g) = (1, omega arith, omega arith, omega arith)
    go (yes d) e f (yes g) = (2, omega arith, omega arith, omega arith)
    go (no d) (yes e) (no f) g = (1, omega arith, omega arith, omega arith)
    go (no d) (yes e) (yes f) g = (2, omega arith, omega arith, omega arith)

-- a line has a cell that is on neither of two others, which are parallel
free_cell : (p : ℕ) (a b c : Line) → 3 < p → Parallel a b → a ≢ c → b ≢ c
    → (k : ℕ) × (k < p - 1) × (On a (row_at c k) (column_at c k) → ⊥) × (On b (row_at c k) (column_at c k) → ⊥)
free_cell p (Row r) (Row s) (Row t) h side d e = (0, omega arith, λ q. d (ap Row (sym q)), λ q. e (ap Row (sym q)))
free_cell p (Column r) (Column s) (Column t) h side d e = (0, omega arith, λ q. d (ap Column (sym q)), λ q. e (ap Column (sym q)))
free_cell p (Row r) (Row s) (Column t) h side d e = let k = neither r s in (k.0, omega (arith, k.1), k.2, k.3)
free_cell p (Column r) (Column s) (Row t) h side d e = let k = neither r s in (k.0, omega (arith, k.1), k.2, k.3)
free_cell p (Row r) (Column s) c h side d e = elim side [ ]
free_cell p (Column r) (Row s) c h side d e = elim side [ ]

-- two parallel lines that are different have different numbers
numbers_apart : (a b : Line) → Parallel a b → a ≢ b → number a ≢ number b
numbers_apart (Row r) (Row s) side d e = d (ap Row e)
numbers_apart (Column r) (Column s) side d e = d (ap Column e)
numbers_apart (Row r) (Column s) side d e = elim side [ ]
numbers_apart (Column r) (Row s) side d e = elim side [ ]

-- the k-th cell of a line is on it
nth_on : (c : Line) (k i j : ℕ) → i ≡ row_at c k → j ≡ column_at c k → On c i j
nth_on (Row r) k i j e f = e
nth_on (Column r) k i j e f = f

-- a tile that agrees in one way agrees in every way that follows from it
another_so : {p l : ℕ} {x : List ℕ} {A B : List ℕ → Type 0} → ((y : List ℕ) → A y → B y) → Another p l x A → Another p l x B
another_so f t = record { tile = t.tile; two = t.two; agrees = f t.tile t.agrees; bytes = t.bytes }

module _ (p l : ℕ) (x : List ℕ) (S : Slope p l) (e : length x ≡ tile_length p) (g : Good p l x) where
  -- a cell of the third line is changed, and the two parallel ones are filled anew
  parallel_lost : (a b c : Line) → Parallel a b → number a < p - 1 → number b < p - 1 → number c < p - 1 → a ≢ b → a ≢ c → b ≢ c
      → Another p l x (EqualOutsideThree p a b c x)
  parallel_lost a b c side ha hb hc ab ac bc =
      let k = free_cell p a b c (omega (arith, S.low, S.high)) side ac bc in
      let h = (nth_in p c k.0).0 (hc, k.1) in
      another_so (λ y same i j hi hj da db dc. same i j hi hj da db (λ q. dc (nth_on c k.0 i j q.0 q.1)))
      (cell_changed p l a b (row_at c k.0) (column_at c k.0) x S side (numbers_apart a b side ab) ha hb h.0 h.1 k.2 k.3 e g)

  -- NO THREE LINES MAY BE LOST, at any slope: whichever they are, each good tile has another one that agrees with it outside them. For of three
  -- lines two are parallel
  pub three_lost : (a b c : Line) → number a < p - 1 → number b < p - 1 → number c < p - 1 → a ≢ b → a ≢ c → b ≢ c → Another p l x (EqualOutsideThree p a b c x)
  three_lost a b c ha hb hc ab ac bc = ⊎_elim (λ side. parallel_lost a b c side ha hb hc ab ac bc)
      (λ cross. ⊎_elim
      (λ side. another_so (λ y same i j hi hj da db dc. same i j hi hj da dc db) (parallel_lost a c b side ha hc hb ac ab (λ q. bc (sym q))))
      (λ side. another_so (λ y same i j hi hj da db dc. same i j hi hj db dc da) (parallel_lost b c a side hb hc ha bc (λ q. ab (sym q)) (λ q. ac (sym q))))
      (one_parallel a b c cross))
      (parallel_or_not a b)

-- ---- both together

-- zeros are a good tile
abbrev zeros : ℕ → List ℕ
zeros p = tile_of p (λ i j. 0)

zeros_good : (p l : ℕ) → Good p l (zeros p)
zeros_good p l = record { common = 0; first = blank 1; second = blank l }
  where
    blank : (s t : ℕ) → t < p → sum p s (cell p (zeros p)) t ≡ 0
    blank s t h = sum_zeros p s t (cell p (zeros p)) (tile_cells p (λ i j. 0) (record { row = λ j q. refl; column = λ i q. refl }))

-- THE MARGIN IS NO WIDER, at any slope: zeros and another good tile agree outside column 0 and the two columns of checks
pub no_wider : (p l : ℕ) → Slope p l → WithinThree p l
no_wider p l S = record {
  a = Column (p - 3);
  b = Column (p - 2);
  c = Column 0;
  lines = (omega arith, omega arith, omega arith);
  x = zeros p;
  y = t.tile;
  two = t.two;
  agree = t.agrees;
  bytes = (of_bytes, t.bytes of_bytes);
}
  where
    large : 3 < p
    large = omega (arith, S.low, S.high)

    of_bytes : Bytes (zeros p)
    of_bytes = tile_bytes_lem p (λ i j. 0) (λ i j. omega arith)

    t : Another p l (zeros p) (EqualOutsideThree p (Column (p - 3)) (Column (p - 2)) (Column 0) (zeros p))
    t = three_lost p l (zeros p) S (tile_length_lem p _) (zeros_good p l) (Column (p - 3)) (Column (p - 2)) (Column 0) (omega arith) (omega arith) (omega arith)
        (λ q. omega (arith, ap number q)) (λ q. omega (arith, ap number q)) (λ q. omega (arith, ap number q))

-- WHICH TWO LINES of a tile may be lost: parallel ones, and any where the powers reach all
pub may_lose : (p l : ℕ) (a b : Line) → Slope p l → number a < p - 1 → number b < p - 1 → MayLose p l a b ↔ Sure p l a b
may_lose p l a b S ha hb = (λ m. go a b ha hb m (reaches_or_misses p l S.prime (slope_pos p l S)), sure_lost p l a b S)
  where
    go : (a b : Line) → number a < p - 1 → number b < p - 1 → MayLose p l a b → Dec (ReachesAll p l) → Sure p l a b
    go a b ha hb m (yes all) = inr all
    go (Row r) (Row s) ha hb m (no miss) = inl tt
    go (Column r) (Column s) ha hb m (no miss) = inl tt
    go (Row s) (Column t) ha hb m (no miss) =
        let z = crossed_lost p l s t (zeros p) S miss ha hb (tile_length_lem p _) (zeros_good p l) in
        absurd (differ_not_agree (m (zeros p) z.tile z.two) z.agrees)
    go (Column t) (Row s) ha hb m (no miss) =
        let z = crossed_lost p l s t (zeros p) S miss hb ha (tile_length_lem p _) (zeros_good p l) in
        absurd (differ_not_agree (m (zeros p) z.tile z.two) (λ i j hi hj d e. z.agrees i j hi hj e d))

-- THEOREM 3.1: the margin is two lines exactly if the powers reach all
pub margin_exactly : (p l : ℕ) → Slope p l → MarginOfTwo p l ↔ ReachesAll p l
margin_exactly p l S = (
  λ m. ⊎_elim (λ side. absurd side) (λ all. all) ((may_lose p l (Row 0) (Column 0) S (omega arith) (omega arith)).0 (m.two (Row 0) (Column 0))),
  λ all. record { two = λ a b. sure_lost p l a b S (inr all); three = no_wider p l S },
)

-- THE MARGIN, for a size and an allowed slope
pub margin : (p l : ℕ) → Size p → Allowed p l → MarginOfTwo p l
margin p l s w = (margin_exactly p l (allowed_slope p l s w)).1 w.reach

-- ---- texts

-- two different texts are written as two different good tiles ..
pub texts_apart : (p l : ℕ) (text text' x y : List ℕ) → Writes p l text x → Writes p l text' y → text ≢ text' → TwoGood p l x y
texts_apart p l text text' x y f g d = record {
  size = f.size;
  size_other = g.size;
  good = f.good;
  good_other = g.good;
  apart = λ e. d (sym f.has ∙ ap (text_of p) e ∙ g.has);
}

-- .. and two different good tiles have two different texts
pub apart_texts : (p l : ℕ) (x y : List ℕ) → Slope p l → TwoGood p l x y → text_of p x ≢ text_of p y
apart_texts p l x y S t e = t.apart (written_once p l (text_of p y) x y S
    (record { size = t.size; good = t.good; has = e }) (record { size = t.size_other; good = t.good_other; has = refl }))
