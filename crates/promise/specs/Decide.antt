-- Tests that antt computes, each with what it shows where it passes: that a tile is good or not, that a tile is the filling of another, or
-- that there is none, in which cells two tiles differ; and lists of cases, each with its test. Assumes nothing.
use Rattle.std.specs.Prelude.{◌≡◌, refl, Bool, true, false, ◌&&◌, ◌||◌, not, List, [], ◌∷◌, ℕ, zero, suc, ◌-◌, ◌%◌, ◌^◌, ◌≤◌, ◌<◌, T, eqb, leb, length, get_or}
use Rattle.std.proofs.Common.{sym, ap₂, ◌∙◌, lt-suc_self, arith, T_not, eqb→eq, leb→le}
use Rattle.std.proofs.Math.Nat.{le_step}
use Rattle.std.proofs.Math.Dec.{not_T, eqb_refl}
use Rattle.residue.specs.Order.{Order}
use Rattle.code.specs.Slope.{Slope}
use Rattle.code.specs.Tile.{tile_length, cell, line, sum, Good, On, EqualOutsideBoth, Differ, Fills}
use Rattle.residue.specs.Test.{and_left, and_right, and_both, or_either, imp, imp_on, up_to, up_at, at_up}
use Rattle.code.specs.Good.{named_twice}
use Rattle.code.specs.OneLine.{number, row_at, column_at, through, Agree}
use Rattle.code.specs.Differ.{differ_on}
use Rattle.code.specs.Filling.{fills_either}
use Rattle.code.specs.Classes.{class_sum}
use Rattle.code.specs.Count.{None}
use Rattle.code.specs.Fillings.{crossed_none}
use Rattle.code.specs.declared.Line.{Line}
use Rattle.code.specs.declared.Line.TheVariants.{Row, Column}
use Rattle.promise.specs.Calls.{Explains, ByLine, OneByte, MoreBytes, Has}
use Rattle.promise.specs.Name.{in_more}
use Rattle.promise.specs.Explain.{Unexplained, explains_fills, explains_has, explained}

-- ---- tests

-- a test, and what it shows where it passes
pub record Test (A : Type 0) : Type 0 where
  pub pass : Bool
  pub shows : T pass → A

-- a test that never passes, for what no case asks
abbrev pub never : {A : Type 0} → Test A
never = record { pass = false; shows = λ h. absurd h }

-- what follows from what a test shows
abbrev pub so : {A B : Type 0} → Test A → (A → B) → Test B
so s f = record { pass = s.pass; shows = λ h. f (s.shows h) }

-- two tests that both pass
abbrev pub both : {A B : Type 0} → Test A → Test B → Test (A × B)
both s t = record {
  pass = s.pass && t.pass;
  shows = λ h. (s.shows (and_left s.pass t.pass h), t.shows (and_right s.pass t.pass h));
}

-- one of two tests passes: so where the first shows what does not hold, the second shows its own
abbrev unless : {A B : Type 0} → Test A → Test B → Test ((A → ⊥) → B)
unless s t = record {
  pass = imp (not s.pass) t.pass;
  shows = λ h f. t.shows (imp_on (not s.pass) t.pass h (not_T s.pass (λ q. f (s.shows q))));
}

-- a test b that has to pass where A holds, and does not: so A does not hold
abbrev refuted : {A : Type 0} (b : Bool) → (A → T b) → Test (A → ⊥)
refuted b f = record { pass = not b; shows = λ h a. T_not b h (f a) }

-- a test that passes for some k below n
unfoldable pub some : (P : ℕ → Type 0) (n : ℕ) → ((k : ℕ) → Test (P k)) → Test ((k : ℕ) × (k < n) × P k)
some P zero t = never
some P (suc n) t = record {
  pass = (t n).pass || (some P n t).pass;
  shows = λ h.
      or_either (t n).pass (some P n t).pass h (λ q. (n, lt-suc_self n, (t n).shows q)) (λ q.
      let s = (some P n t).shows q in (s.0, le_step s.1, s.2));
}

-- a test that passes for each k below n
abbrev pub below : (P : ℕ → Type 0) (n : ℕ) → ((k : ℕ) → Test (P k)) → Test ((k : ℕ) → k < n → P k)
below P n t = record { pass = up_to (λ k. (t k).pass) n; shows = λ h k q. (t k).shows (up_at (λ k. (t k).pass) n h k q) }

-- ---- numbers and lists

-- two numbers are equal
abbrev pub equal : (m n : ℕ) → Test (m ≡ n)
equal m n = record { pass = eqb m n; shows = eqb→eq m n }

-- m is at most n
abbrev pub at_most : (m n : ℕ) → Test (m ≤ n)
at_most m n = record { pass = leb m n; shows = leb→le m n }

-- equal numbers pass
pub equal_passes : (m n : ℕ) → m ≡ n → T (eqb m n)
equal_passes m n e = rw e (eqb_refl n)

-- f and g are equal below n, and pass if they are
abbrev pub equals : (f g : ℕ → ℕ) (n : ℕ) → Test ((k : ℕ) → k < n → f k ≡ g k)
equals f g n = below (λ k. f k ≡ g k) n (λ k. equal (f k) (g k))

pub equals_pass : (f g : ℕ → ℕ) (n : ℕ) → ((k : ℕ) → k < n → f k ≡ g k) → T (equals f g n).pass
equals_pass f g n e = at_up (λ k. eqb (f k) (g k)) n (λ k h. equal_passes (f k) (g k) (e k h))

-- two lists are the same
unfoldable pub same : (xs ys : List ℕ) → Test (xs ≡ ys)
same [] [] = record { pass = true; shows = λ h. refl }
same [] (y ∷ ys) = never
same (x ∷ xs) [] = never
same (x ∷ xs) (y ∷ ys) = so (both (equal x y) (same xs ys)) (λ t. ap₂ ◌∷◌ t.0 t.1)

-- ---- lists of cases

module _ {Case : Type 0} (Claim : Case → Type 0) where
  -- what a list of cases claims: each of them
  abbrev pub Each : List Case → Type 0
  Each [] = Unit {0}
  Each (c ∷ cs) = Claim c × Each cs

  -- the test of a list of cases
  unfoldable pub each : ((c : Case) → Test (Claim c)) → (cs : List Case) → Test (Each cs)
  each tested [] = record { pass = true; shows = λ h. tt }
  each tested (c ∷ cs) = both (tested c) (each tested cs)

  -- the claim of one case of a list, counted from 0 (c stands for those past the end)
  pub numbered : (c : Case) → Claim c → (cs : List Case) → Each cs → (k : ℕ) → Claim (get_or cs k c)
  numbered c h [] t k = h
  numbered c h (d ∷ ds) t zero = t.0
  numbered c h (d ∷ ds) t (suc k) = numbered c h ds t.1 k

-- the order of l: its n-th power is 1, and none of those before, but for the 0-th
unfoldable pub order_is : (p l n : ℕ) → Test (Order p l n)
order_is p l n =
    so (both (at_most 1 n) (both (equal ((l ^ n) % p) 1)
    (below (λ k. 0 < k → (l ^ k) % p ≡ 1 → ⊥) n (λ k. unless_zero k (refuted (eqb ((l ^ k) % p) 1) (equal_passes ((l ^ k) % p) 1))))))
    (λ t. record { some = t.0; back = t.1.0; first = λ k h q. t.1.1 k q h })
  where
    unless_zero : {A : Type 0} (k : ℕ) → Test A → Test (0 < k → A)
    unless_zero zero t = record { pass = true; shows = λ h q. absurd (omega arith) }
    unless_zero (suc k) t = so t (λ a q. a)

-- ---- tiles of some size and slope

-- the sum of the slope-s line t
abbrev pub sum_of : ℕ → List ℕ → ℕ → ℕ → ℕ
sum_of p x s t = sum p s (cell p x) t

-- the byte that a good tile's sums equal is that of the first line
pub common_is : (p l : ℕ) (x : List ℕ) (g : Good p l x) → 0 < p → sum_of p x 1 0 ≡ g.common
common_is p l x g h = g.first 0 h

-- good: all sums equal that of the first line
unfoldable pub good : (p l : ℕ) (x : List ℕ) → Test (Good p l x)
good p l x = so (both (equals (sum_of p x 1) (λ t. sum_of p x 1 0) p) (equals (sum_of p x l) (λ t. sum_of p x 1 0) p))
    (λ t. record { common = sum_of p x 1 0; first = t.0; second = t.1 })

-- a good tile passes ..
pub good_passes : (p l : ℕ) (x : List ℕ) → Good p l x → T (good p l x).pass
unfolding good
good_passes p l x g =
    and_both (equals (sum_of p x 1) (λ t. sum_of p x 1 0) p).pass (equals (sum_of p x l) (λ t. sum_of p x 1 0) p).pass
    (equals_pass (sum_of p x 1) (λ t. sum_of p x 1 0) p (λ t q. g.first t q ∙ sym (common_is p l x g (omega arith))))
    (equals_pass (sum_of p x l) (λ t. sum_of p x 1 0) p (λ t q. g.second t q ∙ sym (common_is p l x g (omega arith))))

-- .. so one that does not is not good
unfoldable pub not_good : (p l : ℕ) (x : List ℕ) → Test (Good p l x → ⊥)
not_good p l x = refuted (good p l x).pass (good_passes p l x)

-- the cell is on the line
abbrev on : (a : Line) (i j : ℕ) → Test (On a i j)
on (Row r) i j = equal i r
on (Column c) i j = equal j c

-- it is not
abbrev pub off : (a : Line) (i j : ℕ) → Test (On a i j → ⊥)
off (Row r) i j = refuted (eqb i r) (equal_passes i r)
off (Column c) i j = refuted (eqb j c) (equal_passes j c)

-- two tiles are equal outside two lines
unfoldable pub outside : (p : ℕ) (a b : Line) (x y : List ℕ) → Test (EqualOutsideBoth p a b x y)
outside p a b x y =
    so (below (λ i. (j : ℕ) → j < p - 1 → (On a i j → ⊥) → (On b i j → ⊥) → cell p x i j ≡ cell p y i j) (p - 1) (λ i.
    below (λ j. (On a i j → ⊥) → (On b i j → ⊥) → cell p x i j ≡ cell p y i j) (p - 1) (λ j.
    unless (on a i j) (unless (on b i j) (equal (cell p x i j) (cell p y i j))))))
    (λ t i j hi hj. t i hi j hj)

-- two tiles differ in a cell
unfoldable pub differing : (p : ℕ) (x y : List ℕ) (i j : ℕ) → Test (Differ p x y i j)
differing p x y i j =
    so (both (both (at_most (suc i) (p - 1)) (at_most (suc j) (p - 1))) (refuted (eqb (cell p x i j) (cell p y i j)) (equal_passes (cell p x i j) (cell p y i j))))
    (λ t. record { row = t.0.0; column = t.0.1; bytes = t.1 })

-- y is a filling of x in the lines a and b
unfoldable pub filling : (p l : ℕ) (a b : Line) (x y : List ℕ) → Test (Fills p l a b x y)
filling p l a b x y =
    so (both (equal (length y) (tile_length p)) (both (good p l y) (outside p a b x y))) (λ t. record { size = t.0; good = t.1.0; agrees = t.1.1 })

-- y is a good tile that differs from x within the line a
abbrev pub explaining : (p l : ℕ) (a : Line) (x y : List ℕ) → Test (Explains p l a x y)
explaining p l a x y = so (filling p l a a x y) (explains_fills p l a x y).1

-- in two cells of the line a and in none outside it
unfoldable pub more_bytes : (p : ℕ) (a : Line) (x y : List ℕ) → Test (MoreBytes p x y a)
more_bytes p a x y =
    let Nth : ℕ → Type 0 = λ k. Differ p x y (row_at a k) (column_at a k) in
    let nth : (k : ℕ) → Test (Nth k) = λ k. differing p x y (row_at a k) (column_at a k) in
    so (both (outside p a a x y) (some (λ k. Nth k × ((m : ℕ) × (m < k) × Nth m)) (p - 1) (λ k. both (nth k) (some Nth k nth)))) (λ t.
    let two = t.1.2 in in_more p a x y ((named_twice p a x y).1 t.0) t.1.0 two.1.0 (omega (arith, two.1.1)) two.0 two.1.2)

-- in one cell alone: they agree outside its column, and outside its row
unfoldable pub one_byte : (p : ℕ) (x y : List ℕ) (i j : ℕ) → Test (OneByte p x y i j)
one_byte p x y i j =
    so (both (differing p x y i j) (both (outside p (Row i) (Row i) x y) (outside p (Column j) (Column j) x y))) (λ t. record {
      here = t.0;
      alone = λ r k d. (
        (differ_on p (Row i) x y).0 ((named_twice p (Row i) x y).1 t.1.0) r k d,
        (differ_on p (Column j) x y).0 ((named_twice p (Column j) x y).1 t.1.1) r k d,
      );
    })

-- what holds of every column and of every row holds of every line
pub each_line : (P : Line → Type 0) → ((k : ℕ) → P (Column k)) → ((k : ℕ) → P (Row k)) → (a : Line) → P a
each_line P f g (Column c) = f c
each_line P f g (Row r) = g r

-- none of the lines f 0, f 1, .. explains a tile that is not good: along those that it has the sums disagree
unfoldable pub none : (p l : ℕ) → Slope p l → (f : ℕ → Line) → ((k : ℕ) → number (f k) ≡ k) → (x : List ℕ)
    → Test ((Good p l x → ⊥) → (k : ℕ) → Unexplained p l x (f k))
none p l S f numbered x =
    so (below (λ k. Agree p l (sum_of p x 1) (sum_of p x l) (f k) → ⊥) (p - 1) (λ k.
    let A : ℕ → ℕ = λ i. sum_of p x 1 (through p 1 (f k) i) in
    let B : ℕ → ℕ = λ i. sum_of p x l (through p l (f k) i) in
    refuted (equals A B p).pass (equals_pass A B p)))
    (λ t bad k y e. let has = explains_has p l (f k) x y bad e in t k (omega (arith, has, numbered k)) ((explained p l (f k) x S has).0 (y, e)))

-- no line at all does
unfoldable pub no_line : (p l : ℕ) → Slope p l → (x : List ℕ) → Test ((Good p l x → ⊥) → None (ByLine p l x))
no_line p l S x = so (both (none p l S Column (λ k. refl) x) (none p l S Row (λ k. refl) x)) (λ t bad y e.
    each_line (Unexplained p l x) (t.0 bad) (t.1 bad) e.line y e.explains)

-- a row with a column has no filling: the sums through the crossing are not equal; or those through the class of some offset do not add up
-- to 0, where n is the order of l
unfoldable pub uncrossed : (p l n : ℕ) → Slope p l → Order p l n → (s t o : ℕ) (x : List ℕ) → Test (s < p - 1 → t < p - 1 → None (Fills p l (Column t) (Row s) x))
uncrossed p l n S O s t zero x =
    let A : ℕ = sum_of p x 1 (line p 1 s t) in
    let B : ℕ = sum_of p x l (line p l s t) in
    so (refuted (eqb A B) (equal_passes A B)) (λ d hs ht. crossed_none p l x S s t hs ht n O (λ c. d c.crossing))
uncrossed p l n S O s t (suc o) x =
    let sum : ℕ = class_sum p l n (sum_of p x 1) (sum_of p x l) s t (suc o) in
    so (both (at_most (suc (suc o)) p) (refuted (eqb sum 0) (equal_passes sum 0))) (λ d hs ht.
    crossed_none p l x S s t hs ht n O (λ c. d.1 (c.class (suc o) (omega arith) d.0)))

-- two lines have no filling, as the offset o shows; only a row with a column is asked about, named in either order
unfoldable pub no_filling : (p l n : ℕ) → Slope p l → Order p l n → (o : ℕ) (a b : Line) (x : List ℕ) → Test (Has p a → Has p b → None (Fills p l a b x))
no_filling p l n S O o (Column t) (Row s) x = so (uncrossed p l n S O s t o x) (λ f ht hs. f (omega arith) (omega arith))
no_filling p l n S O o (Row s) (Column t) x =
    so (uncrossed p l n S O s t o x) (λ f hs ht y g. f (omega arith) (omega arith) y (fills_either p l (Row s) (Column t) x y g))
no_filling p l n S O o (Row r) (Row s) x = never
no_filling p l n S O o (Column c) (Column d) x = never
