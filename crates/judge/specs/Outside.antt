-- How two tiles are compared outside two lines: each column in which some row differs gets a mark, the rows that are named left out, and then
-- the columns that are named are passed over. Assumes nothing.
use Rattle.std.specs.Prelude.{◌≡◌, ◌⊎◌, ◌↔◌, List, ℕ, ◌+◌, ◌-◌, ◌*◌, ◌≤◌, ◌<◌, replicate, Bool, true, false, not, Option, Some, None, MatchOption}
use Rattle.std.proofs.Common.{sym, ap, ◌∙◌, inl, inr, ⊎_elim, arith, below_more}
use Rattle.code.specs.Tile.{tile_length, cell, On, EqualOutsideBoth}
use Rattle.code.specs.Place.{cell_in, place_is}
use Rattle.std.specs.Option.{is_some}
use Rattle.code.specs.Says.{Says}
use Rattle.code.specs.Held.{held, zeros_held}
use Rattle.code.specs.declared.Line.{Line}
use Rattle.code.specs.declared.Line.TheVariants.{Row, Column}

-- two tiles of one size, of n and of m bytes
pub record TwoTiles (p n m : ℕ) : Type 0 where
  pub low : 2 ≤ p
  pub high : p ≤ 257
  pub size : n ≡ tile_length p
  pub size_other : m ≡ tile_length p

-- ---- a row

-- n bytes of x and of y, from `start` on, are compared, and the marks m become m': a place that had none has none now exactly if the two bytes
-- are equal
pub record RowMarked (x y : List ℕ) (start n : ℕ) (m m' : List ℕ) : Type 0 where
  pub clear : (j : ℕ) → j < n → (held m' j ≡ 0) ↔ ((held m j ≡ 0) × (held x (start + j) ≡ held y (start + j)))
  pub rest : (j : ℕ) → n ≤ j → held m' j ≡ held m j

-- ---- rows

-- a line is one of two
abbrev pub OneOf : Line → Line → Line → Type 0
OneOf c a b = (c ≡ a) ⊎ (c ≡ b)

-- the rows of x and y before row n are compared, all but a and b: a column has no mark exactly if they agree there
pub record RowsMarked (p : ℕ) (x y : List ℕ) (a b : Line) (n : ℕ) (m : List ℕ) : Type 0 where
  pub clear : (j : ℕ) → j < p - 1 → (held m j ≡ 0) ↔ ((i : ℕ) → i < n → (OneOf (Row i) a b → ⊥) → cell p x i j ≡ cell p y i j)

-- a cell is on a line that is its row or its column, and on no other
on_is : (c : Line) (i j : ℕ) → On c i j ↔ ((Row i ≡ c) ⊎ (Column j ≡ c))
on_is (Row r) i j = (λ e. inl (ap Row e), ⊎_elim (λ e. cc) (λ e. cc))
on_is (Column k) i j = (λ e. inr (ap Column e), ⊎_elim (λ e. cc) (λ e. cc))

module _ {p : ℕ} {x y : List ℕ} {a b : Line} where
  -- none is compared yet
  pub rows_none : RowsMarked p x y a b 0 (replicate 257 0)
  rows_none = record { clear = λ j h. (λ q i l. omega arith, λ q. zeros_held 257 j) }

  -- a row that is a or b is passed over
  pub rows_passed : {n : ℕ} {m : List ℕ} → OneOf (Row n) a b → RowsMarked p x y a b n m → RowsMarked p x y a b (n + 1) m
  rows_passed {n} {m} named r = record {
    clear = λ j h. (
      λ q. below_more (λ i. (OneOf (Row i) a b → ⊥) → cell p x i j ≡ cell p y i j) n ((r.clear j h).0 q) (λ d. absurd (d named)),
      λ q. (r.clear j h).1 (λ i l. q i (omega arith)),
    );
  }

  -- one more is compared
  pub rows_more : {n : ℕ} {m m' : List ℕ} → n < p - 1 → (OneOf (Row n) a b → ⊥) → RowMarked x y (n * (p - 1)) (p - 1) m m'
      → RowsMarked p x y a b n m → RowsMarked p x y a b (n + 1) m'
  rows_more {n} {m} {m'} hn off row r = record {
    clear = λ j h. (
      λ q. let t = (row.clear j h).0 q in
          below_more (λ i. (OneOf (Row i) a b → ⊥) → cell p x i j ≡ cell p y i j) n ((r.clear j h).0 t.0) (λ d. at x j h ∙ t.1 ∙ sym (at y j h)),
      λ q. (row.clear j h).1 ((r.clear j h).1 (λ i l. q i (omega arith)), sym (at x j h) ∙ q n (omega arith) off ∙ at y j h),
    );
  }
    where
      at : (z : List ℕ) (j : ℕ) → j < p - 1 → cell p z n j ≡ held z (n * (p - 1) + j)
      at z j h = cell_in p z n j hn h ∙ ap (held z) (place_is p n j)

  -- ---- columns

  -- where each column with a mark is a or b the tiles agree outside them
  pub marks_agree : {m : List ℕ} → RowsMarked p x y a b (p - 1) m → ((j : ℕ) → j < p - 1 → (held m j ≡ 0) ⊎ (OneOf (Column j) a b))
      → EqualOutsideBoth p a b x y
  marks_agree r columns i j hi hj off off_other = ⊎_elim
      (λ e. (r.clear j hj).0 e i hi (⊎_elim (λ q. off ((on_is a i j).1 (inl q))) (λ q. off_other ((on_is b i j).1 (inl q)))))
      (λ named. absurd (⊎_elim (λ q. off ((on_is a i j).1 (inr q))) (λ q. off_other ((on_is b i j).1 (inr q))) named))
      (columns j hj)

  -- and where a column with a mark is neither a nor b, they do not
  pub marks_differ : {m : List ℕ} → RowsMarked p x y a b (p - 1) m → (j : ℕ) → j < p - 1 → (held m j ≡ 0 → ⊥) → (OneOf (Column j) a b → ⊥)
      → EqualOutsideBoth p a b x y → ⊥
  marks_differ r j hj marked off equal = marked ((r.clear j hj).1 (λ i hi kept.
      equal i j hi hj (λ o. ⊎_elim (λ q. kept (inl q)) (λ q. off (inl q)) ((on_is a i j).0 o))
      (λ o. ⊎_elim (λ q. kept (inr q)) (λ q. off (inr q)) ((on_is b i j).0 o))))

  -- what the search for such a column answers says whether they agree
  pub marks_told : {m : List ℕ} (told : Bool) (found : Option ℕ) → RowsMarked p x y a b (p - 1) m → is_some found ≡ not told
      → MatchOption found ((k : ℕ) → 0 ≤ k → k < p - 1 → (held m k ≡ 0) ⊎ (OneOf (Column k) a b))
      (λ i. (0 ≤ i) × (i < p - 1) × ((held m i ≡ 0 → ⊥) × (OneOf (Column i) a b → ⊥))
      × ((k : ℕ) → 0 ≤ k → k < i → (held m k ≡ 0) ⊎ (OneOf (Column k) a b)))
      → Says told (EqualOutsideBoth p a b x y)
  marks_told {m} true None r e none = marks_agree r (λ j h. none j (omega arith) h)
  marks_told {m} false None r e none = absurd cc
  marks_told {m} true (Some i) r e some = absurd cc
  marks_told {m} false (Some i) r e some = marks_differ r i some.1 some.2.0 some.2.1
