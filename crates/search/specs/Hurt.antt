-- Which line is hurt. Assumes nothing.
use Rattle.std.specs.Prelude.{◌≡◌, List, Bool, true, false, ◌≢◌, ℕ, ◌+◌, ◌-◌, ◌*◌, ◌%◌, ◌≤◌, ◌<◌, Option, Some, None, is_some, MatchOption, Result, Ok, Err}
use Rattle.std.proofs.Common.{sym, ap, ◌∙◌, mod-lt, pos_of_ne-zero, arith}
use Rattle.std.proofs.Math.Nat.{mod-mod}
use Rattle.std.proofs.Math.Decide.{dec_lt}
use Rattle.residue.specs.Remainder.{same}
use Rattle.residue.specs.Power.{ReachesAll}
use Rattle.code.specs.Tile.{Cells, cell, sum}
use Rattle.code.specs.Turn.{turned, turn_first, turn_second}
use Rattle.code.specs.OneLine.{number, through, Agree, shifted}
use Rattle.code.specs.Distance.{Parallel}
use Rattle.code.specs.Kind.{Takes}
use Rattle.code.specs.declared.Kind.{Kind}
use Rattle.code.specs.declared.Kind.TheVariants.{New}
use Rattle.code.specs.declared.Line.{Line}
use Rattle.code.specs.declared.Line.TheVariants.{Row, Column}
use Rattle.walk.specs.Sums.{Summed, OtherAt, AllOne}
use Rattle.walk.specs.Good.{one_good, good_one, turned_good, turned_one, one_none}
use Rattle.walk.specs.Along.{Changed, Shifted}
use Rattle.search.specs.Line.{Fits, Searched, FitsAlong, weight_of, back_of, fits_agree, agree_fits, change_of, meets}
use Rattle.size.specs.declared.Unclear.{Unclear}
use Rattle.size.specs.declared.Unclear.TheVariants as unclear

-- the change x has one byte at most below n, at k; and it has two
abbrev pub Once : ℕ → (ℕ → ℕ) → ℕ → Type 0
Once n x k = (m : ℕ) → m < n → m ≢ k → x m ≡ 0

pub record Twice (n : ℕ) (x : ℕ → ℕ) : Type 0 where
  pub one : ℕ
  pub other : ℕ
  pub one_lt : one < n
  pub other_lt : other < n
  pub apart : one ≢ other
  pub at_one : x one ≢ 0
  pub at_other : x other ≢ 0

-- why the change x in the line a is the only one that explains the sums: the slope reaches all; x has one byte at most; or the sums agree
-- along no line that crosses a
pub data Alone (p l : ℕ) (A B x : ℕ → ℕ) (a : Line) : Type 0 where
  reaching : ReachesAll p l → Alone p l A B x a
  one_byte : {k : ℕ} → Once (p - 1) x k → Alone p l A B x a
  uncrossed : ((b : Line) → number b < p - 1 → (Parallel a b → ⊥) → Agree p l A B b → ⊥) → Alone p l A B x a

-- what the search finds of the sums A and B, and the change x that mends it
pub data Found (p l : ℕ) (A B x : ℕ → ℕ) : Result (Option Line) Unclear → Type 0 where
  good : AllOne p A B → Found p l A B x (Ok None)
  one : {a : Line} → (AllOne p A B → ⊥) → number a < p - 1 → Agree p l A B a → Shifted p A a x → Alone p l A B x a → Found p l A B x (Ok (Some a))
  more : (AllOne p A B → ⊥) → ((a : Line) → number a < p - 1 → Agree p l A B a → ⊥) → Found p l A B x (Err unclear.Damaged)
  doubtful : {c r : ℕ} → (AllOne p A B → ⊥) → c < p - 1 → r < p - 1 → Agree p l A B (Column c) → Agree p l A B (Row r) → Twice (p - 1) (shifted p A (Column c))
      → Found p l A B x (Err unclear.Doubtful)

-- k is a place from `from` on, below `end`, at which the change x is not zero, and before it x is
pub record ChangedAt (x : ℕ → ℕ) (from end k : ℕ) : Type 0 where
  pub low : from ≤ k
  pub high : k < end
  pub is : x k ≢ 0
  pub before : (j : ℕ) → from ≤ j → j < k → x j ≡ 0

-- k is the first place from `from` on, below `end`, at which the change x is not zero, if there is one
abbrev pub NextChanged : (ℕ → ℕ) → ℕ → ℕ → Option ℕ → Type 0
NextChanged x from end k = MatchOption k ((j : ℕ) → from ≤ j → j < end → x j ≡ 0) (ChangedAt x from end)

-- where a line is found that explains a tile, it is the hurt one
abbrev pub hurt_line : Result Line Unclear → Result (Option Line) Unclear
hurt_line (Ok a) = Ok (Some a)
hurt_line (Err e) = Err e

-- what is found at each slope of which m is the inverse
abbrev pub Explained : Kind → ℕ → ℕ → Cells → (ℕ → ℕ) → Result Line Unclear → Type 0
Explained kind p m T x which = (l : ℕ) → Takes kind p l → l * m % p ≡ 1 → Found p l (sum p 1 T) (sum p l T) x (hurt_line which)

-- whether the sums agree along a row too, where the change x of a column has two bytes. It need not be told of a new tile, nor where x has one
pub data AlsoRow (kind : Kind) (p m : ℕ) (A S x : ℕ → ℕ) : Bool → Type 0 where
  is_new : kind ≡ New → AlsoRow kind p m A S x false
  has_one : {k : ℕ} → Once (p - 1) x k → AlsoRow kind p m A S x false
  no_row_fits : ((k : ℕ) → k < p - 1 → Fits p (m - 1) 1 A S k → ⊥) → AlsoRow kind p m A S x false
  a_row : {r : ℕ} → Twice (p - 1) x → r < p - 1 → Fits p (m - 1) 1 A S r → AlsoRow kind p m A S x true

-- a change has two bytes where there is a next place after the first, and else one at most
pub twice_changed : {x : ℕ → ℕ} {n k m : ℕ} → ChangedAt x 0 n k → ChangedAt x (k + 1) n m → Twice n x
twice_changed {x} {n} {k} {m} first second = record {
  one = k;
  other = m;
  one_lt = first.high;
  other_lt = second.high;
  apart = omega (arith, second.low);
  at_one = first.is;
  at_other = second.is;
}

pub once_changed : {x : ℕ → ℕ} {n k : ℕ} → ChangedAt x 0 n k → ((j : ℕ) → k + 1 ≤ j → j < n → x j ≡ 0) → Once n x k
once_changed {x} {n} {k} first none o q d = go (dec_lt o k)
  where
    go : Dec (o < k) → x o ≡ 0
    go (yes l) = first.before o (omega arith) l
    go (no l) = none o (omega arith) q

-- a change that is nowhere zero but at one place below `end`, or at none, need not be told from a row's ..
pub said_none : {kind : Kind} {p m : ℕ} {A S x : ℕ → ℕ} → ((j : ℕ) → 0 ≤ j → j < p - 1 → x j ≡ 0) → AlsoRow kind p m A S x false
said_none none = has_one {k = 0} (λ j l d. none j (omega arith) l)

pub said_once : {kind : Kind} {p m k : ℕ} {A S x : ℕ → ℕ} (second : Option ℕ) → ChangedAt x 0 (p - 1) k → NextChanged x (k + 1) (p - 1) second
    → is_some second ≡ false → AlsoRow kind p m A S x false
said_once None first none e = has_one (once_changed first none)
said_once (Some n) first other e = cc

-- .. and of one that is not zero at two the search for a row says it
pub said_twice : {kind : Kind} {p m k : ℕ} {A S x : ℕ → ℕ} (second row : Option ℕ) → ChangedAt x 0 (p - 1) k → NextChanged x (k + 1) (p - 1) second
    → is_some second ≡ true → Searched p (m - 1) 1 A S row → AlsoRow kind p m A S x (is_some row)
said_twice None row first none e rows = cc
said_twice (Some n) None first second e none = no_row_fits none
said_twice (Some n) (Some r) first second e fits = a_row {r = r} (twice_changed first second) fits.0 fits.1

-- a line through a cell has a number below p
through_lt : (p s : ℕ) (a : Line) (k : ℕ) → 0 < p → through p s a k < p
through_lt p s (Row r) k h = mod-lt _ h
through_lt p s (Column c) k h = mod-lt _ h

-- the same bytes are changed by what is the same change
pub twice_ext : (n : ℕ) (x y : ℕ → ℕ) → ((k : ℕ) → k < n → x k ≡ y k) → Twice n x → Twice n y
twice_ext n x y h t = record {
  one = t.one;
  other = t.other;
  one_lt = t.one_lt;
  other_lt = t.other_lt;
  apart = t.apart;
  at_one = λ z. t.at_one (h t.one t.one_lt ∙ z);
  at_other = λ z. t.at_other (h t.other t.other_lt ∙ z);
}

-- where the sums agree along no column, the change of a row is the only one
alone_row : {p l : ℕ} {A B x : ℕ → ℕ} {r : ℕ} → ((k : ℕ) → k < p - 1 → Agree p l A B (Column k) → ⊥) → Alone p l A B x (Row r)
alone_row {p} {l} {A} {B} {x} {r} none = uncrossed go
  where
    go : (b : Line) → number b < p - 1 → (Parallel (Row r) b → ⊥) → Agree p l A B b → ⊥
    go (Column k) h cross g = none k h g
    go (Row s) h cross g = cross tt

-- ---- what the search tells

-- S has the turned tile's sums of slope m, and those of slope 1 differ at `begin` and the place after it
module _ (kind : Kind) (p m begin : ℕ) (T : Cells) (S : ℕ → ℕ) (pos : 0 < m) (lt : m < p) (in_tile : begin + 1 < p) (sums : Summed p m (turned T) S)
    (apart : sum p 1 T begin ≢ sum p 1 T (begin + 1)) where
  abbrev A : ℕ → ℕ
  A = sum p 1 T

  module _ (l : ℕ) (inverse : l * m % p ≡ 1) where
    abbrev B : ℕ → ℕ
    B = sum p l T

    -- they are the tile's of slope l, in another order
    at_slope : (v : ℕ) → v < p → S v ≡ B (l * v % p)
    at_slope v h = sums v h ∙ turn_second p l m inverse v T h

    -- not all sums are one byte
    bad : AllOne p A B → ⊥
    bad o = apart (o.first begin (omega arith) ∙ sym (o.first (begin + 1) in_tile))

    -- what fits agrees, and where nothing fits nothing agrees
    agrees : (a : Line) → FitsAlong p m A S a → Agree p l A B a
    agrees a = fits_agree p l m a A B S inverse at_slope pos lt

    fits : (a : Line) → Agree p l A B a → FitsAlong p m A S a
    fits a = agree_fits p l m a A B S inverse at_slope pos lt

    -- the change is the line's
    change : (a : Line) (start : ℕ) (x : ℕ → ℕ) → start % p ≡ back_of m a * number a % p → Agree p l A B a → Changed p start (weight_of m a) S x → Shifted p A a x
    change a start x e g = change_of p l m a A B S inverse at_slope start x g e

    -- what is told of the rows says whether the change x of a column is the only one
    alone_column : (x : ℕ → ℕ) (c : ℕ) → Takes kind p l → AlsoRow kind p m A S x false → Alone p l A B x (Column c)
    alone_column x c w (is_new e) = let new : Takes New p l = rw e at w in reaching new.reach
    alone_column x c w (has_one o) = one_byte o
    alone_column x c w (no_row_fits f) = uncrossed go
      where
        go : (b : Line) → number b < p - 1 → (Parallel (Column c) b → ⊥) → Agree p l A B b → ⊥
        go (Row r) h cross g = f r h (fits (Row r) g)
        go (Column d) h cross g = cross tt

    doubt_column : (x : ℕ → ℕ) (c : ℕ) → c < p - 1 → Agree p l A B (Column c) → Shifted p A (Column c) x
        → AlsoRow kind p m A S x true → Found p l A B x (Err unclear.Doubtful)
    doubt_column x c h e w (a_row {r} t q g) =
        doubtful bad h q e (agrees (Row r) g) (twice_ext (p - 1) x (shifted p A (Column c)) (λ k lt. w k (omega arith)) t)

  -- so each way that the search goes tells what is found, at every slope of which m is the inverse
  pub explained_doubtful : (x : ℕ → ℕ) (c : ℕ) → c < p - 1 → FitsAlong p m A S (Column c) → Changed p c m S x → AlsoRow kind p m A S x true
      → Explained kind p m T x (Err unclear.Doubtful)
  explained_doubtful x c h f w also l takes inverse =
      let g = agrees l inverse (Column c) f in doubt_column l inverse x c h g (change l inverse (Column c) c x (same p (omega arith)) g w) also

  pub explained_column : (x : ℕ → ℕ) (c : ℕ) → c < p - 1 → FitsAlong p m A S (Column c) → Changed p c m S x → AlsoRow kind p m A S x false
      → Explained kind p m T x (Ok (Column c))
  explained_column x c h f w also l takes inverse =
      let g = agrees l inverse (Column c) f in
      one (bad l inverse) h g (change l inverse (Column c) c x (same p (omega arith)) g w) (alone_column l inverse x c takes also)

  module _ (no_column : (c : ℕ) → c < p - 1 → FitsAlong p m A S (Column c) → ⊥) where
    pub explained_row : (x : ℕ → ℕ) (r : ℕ) → r < p - 1 → FitsAlong p m A S (Row r) → Changed p (m * r % p) 1 S x → Explained kind p m T x (Ok (Row r))
    explained_row x r h f w l takes inverse =
        let g = agrees l inverse (Row r) f in
        one (bad l inverse) h g (change l inverse (Row r) (m * r % p) x (mod-mod (m * r) p) g w) (alone_row (λ c q e. no_column c q (fits l inverse (Column c) e)))

    pub explained_more : (x : ℕ → ℕ) → ((r : ℕ) → r < p - 1 → FitsAlong p m A S (Row r) → ⊥) → Explained kind p m T x (Err unclear.Damaged)
    explained_more x no_row l takes inverse = more (bad l inverse) none
      where
        none : (a : Line) → number a < p - 1 → Agree p l A (sum p l T) a → ⊥
        none (Row r) h g = no_row r h (fits l inverse (Row r) g)
        none (Column c) h g = no_column c h (fits l inverse (Column c) g)

-- ---- sums of slope 1 that are one byte

-- where those of slope 1 are one byte and those of the second slope are not, no line explains them
pub none_explains : (p l m : ℕ) {A B : ℕ → ℕ} → l * m % p ≡ 1 → ((t : ℕ) → t < p → A t ≡ A 0) → (AllOne p A B → ⊥) → (a : Line) → Agree p l A B a → ⊥
none_explains p l m {A} {B} inverse one_byte_all bad a g = bad (record { first = one_byte_all; second = go })
  where
    go : (u : ℕ) → u < p → B u ≡ A 0
    go u h = let k = meets p l m a inverse u h in ap B (sym k.2) ∙ sym (g k.0 k.1) ∙ one_byte_all _ (through_lt p 1 a k.0 (omega arith))

-- A has the turned tile's sums of slope 1
module _ (p : ℕ) (x : List ℕ) {A : ℕ → ℕ} (ha : Summed p 1 (turned (cell p x)) A) where
  -- A has the tile's own sums
  own : (t : ℕ) → t < p → A t ≡ sum p 1 (cell p x) t
  own t h = ha t h ∙ turn_first p t (cell p x)

  -- where there is a place at which they are another byte than at 0, the first such place is not 0, and the sum before it differs
  module _ {r : ℕ} (other : OtherAt p (A 0) A r) where
    pub edge_pos : 0 < r
    edge_pos = pos_of_ne-zero (λ z. other.other (ap A z))

    pub edge_apart : sum p 1 (cell p x) (r - 1) ≢ sum p 1 (cell p x) (r - 1 + 1)
    edge_apart e =
        let pos = edge_pos in
        let next : r - 1 + 1 ≡ r = omega arith in
        other.other (own r other.lt ∙ ap (sum p 1 (cell p x)) (sym next) ∙ sym e ∙ sym (own (r - 1) (omega (arith, other.lt))) ∙ other.before (r - 1) (omega arith))

  -- where there is none, those of slope m, the inverse of l, tell whether the tile is good; if it is not, no line explains it
  module _ (l m : ℕ) {S : ℕ → ℕ} (inverse : l * m % p ≡ 1) (hs : Summed p m (turned (cell p x)) S) (pos : 0 < p) (alike : (t : ℕ) → t < p → A t ≡ A 0) where
    pub found_nothing : {y : ℕ → ℕ} → ((t : ℕ) → t < p → S t ≡ A 0) → Found p l (sum p 1 (cell p x)) (sum p l (cell p x)) y (Ok None)
    found_nothing second = good (good_one p l x pos (turned_good p l m x inverse ha hs (record { first = alike; second = second })))

    pub found_more : {s : ℕ} {y : ℕ → ℕ} → OtherAt p (A 0) S s → Found p l (sum p 1 (cell p x)) (sum p l (cell p x)) y (Err unclear.Damaged)
    found_more second = more bad_sums (λ a q. none_explains p l m inverse one_sum bad_sums a)
      where
        bad_sums : AllOne p (sum p 1 (cell p x)) (sum p l (cell p x)) → ⊥
        bad_sums o = one_none (turned_one p l m x inverse ha hs pos (one_good p l x o)) second

        one_sum : (t : ℕ) → t < p → sum p 1 (cell p x) t ≡ sum p 1 (cell p x) 0
        one_sum t q = sym (own t q) ∙ alike t q ∙ own 0 pos
