-- How a repair ends: what the search found, and the change that was made to the tile, make an outcome that the call's relation allows.
-- Assumes nothing.
use Rattle.std.specs.Prelude.{◌≡◌, List, ℕ, ◌-◌, ◌<◌, length, Option, Some, None, Result, Ok, Err}
use Rattle.std.proofs.Common.{sym, ap, ◌∙◌, arith}
use Rattle.std.proofs.Math.Decide.{ℕ_discrete}
use Rattle.xor.specs.Xor.{◌⊕◌, self}
use Rattle.code.specs.Slope.{Slope, slope_inverse}
use Rattle.code.specs.Tile.{tile_length, cell, sum, Good, text_of, On, Differ}
use Rattle.code.specs.Differ.{agree_at, index}
use Rattle.code.specs.Distance.{Parallel}
use Rattle.code.specs.Filling.{line_difference}
use Rattle.code.specs.Count.{Only, once_only}
use Rattle.code.specs.Settle.{settles_ext}
use Rattle.code.specs.OneLine.{number, Agree, shifted, along, along_ext, along_padded, one_line_settles}
use Rattle.code.specs.declared.Kind.{Kind}
use Rattle.code.specs.declared.Line.{Line}
use Rattle.code.specs.declared.Line.TheVariants.{Row, Column}
use Rattle.size.specs.Answer as size
use Rattle.walk.specs.Sums.{AllOne}
use Rattle.walk.specs.Good.{one_good, good_one}
use Rattle.cells.specs.Change.{Added, changed_good, changed, changed_added, changed_length}
use Rattle.walk.specs.Along.{Shifted}
use Rattle.search.specs.Hurt as hurt
use Rattle.search.specs.Hurt.{Once}
use Rattle.size.specs.declared.Unclear.{Unclear}
use Rattle.size.specs.declared.Unclear.TheVariants as unclear
use Rattle.size.specs.Refusal.{number_of}
use Rattle.size.specs.Unclear.{refusal_of}
use Rattle.promise.specs.Answer.{Said, clean, refused}
use Rattle.promise.specs.Calls.{Admitted, TileLength, BothLengths, Looked, Explains, ByLine, Named, RepairTold, is_good, is_hurt, RecoverTold, Has}
use Rattle.promise.specs.Admit.{admitted_some, slope_of_lem}
use Rattle.promise.specs.Name.{nth_of, in_more, named_granted, granted_clean}
use Rattle.promise.specs.Explain.{Unexplained, explains_fills, explains_on, same_good, explains_has, explained}
use Rattle.promise.specs.Doubt.{line_only, both_only, reach_once, more_several}
use Rattle.mender.specs.Called.{Called, unchanged, agrees}

-- ---- one line

-- a line's change, where the sums agree along it
pub line_explains : (p l : ℕ) (a : Line) (X : ℕ → ℕ) (x z : List ℕ) → Slope p l → Has p a → length z ≡ tile_length p
    → Agree p l (sum p 1 (cell p x)) (sum p l (cell p x)) a → Shifted p (sum p 1 (cell p x)) a X → Added p (along a X) x z → Explains p l a x z
line_explains p l a X x z S h size agree shift added = record {
  size = size;
  good =
      changed_good p l x z (along a X) (along_padded p a X (omega arith) (shift (p - 1) (omega (arith, S.high)) ∙ self _))
      (settles_ext p l _ _ (along a (shifted p (sum p 1 (cell p x)) a)) (along a X) (along_ext p a _ X (λ k q. sym (shift k q)))
      (let m = slope_inverse p l S in one_line_settles p l m.0 m.1 _ _ a (omega arith) agree)) added;
  same = unchanged p a X x z (omega arith) added;
}

-- a line that the sums do not agree along explains nothing
pub line_unexplained : (p l : ℕ) (a : Line) (x : List ℕ) → Slope p l → (Good p l x → ⊥)
    → (number a < p - 1 → Agree p l (sum p 1 (cell p x)) (sum p l (cell p x)) a → ⊥) → Unexplained p l x a
line_unexplained p l a x S bad d y e = let h = explains_has p l a x y bad e in d (omega arith) ((explained p l a x S h).0 (y, e))

-- the line that crosses a in its k-th cell
crossing : Line → ℕ → Line
crossing (Row r) k = Column k
crossing (Column c) k = Row k

crossing_crosses : (a : Line) (k : ℕ) → Parallel a (crossing a k) → ⊥
unfolding crossing
crossing_crosses (Row r) k h = h
crossing_crosses (Column c) k h = h

-- a change of one byte is one of the line that crosses there, too
once_crossing : (p : ℕ) (a : Line) (X : ℕ → ℕ) (x z : List ℕ) (k : ℕ) → number a < p - 1 → Added p (along a X) x z → Once (p - 1) X k
    → (i j : ℕ) → Differ p x z i j → On (crossing a k) i j
unfolding crossing
once_crossing p a X x z k h added once i j d = at a (here (ℕ_discrete (index a i j) k))
  where
    here : Dec (index a i j ≡ k) → index a i j ≡ k
    here (yes e) = e
    here (no f) = absurd (agrees p a X x z h added (index a i j) (λ q. once (index a i j) q f) (nth_of p a x z (unchanged p a X x z h added) i j d))

    at : (a : Line) → index a i j ≡ k → On (crossing a k) i j
    at (Row r) e = e
    at (Column c) e = e

-- ---- what is made of a finding

-- what is found: nothing or a line, or why it is not known which
abbrev pub Hurt : Type 0
Hurt = Result (Option Line) Unclear

-- the line that was found is one of the tile's
abbrev pub LineIn : ℕ → Hurt → Type 0
LineIn p (Ok None) = Unit {0}
LineIn p (Ok (Some a)) = number a < p - 1
LineIn p (Err e) = Unit {0}

pub line_in : {p l : ℕ} {A B X : ℕ → ℕ} {which : Hurt} → hurt.Found p l A B X which → LineIn p which
line_in (hurt.good g) = tt
line_in (hurt.one d h e w alone) = h
line_in (hurt.more d none) = tt
line_in (hurt.doubtful d hc hr e f two) = tt

pub one_in : (p : ℕ) {which : Hurt} {a : Line} → which ≡ Ok (Some a) → LineIn p which → number a < p - 1
one_in p e h = rw e at h

-- the tile that repair leaves of x: with the change X in the line that was found, or x itself
abbrev pub mended : ℕ → (ℕ → ℕ) → Hurt → List ℕ → List ℕ
mended p X (Ok None) x = x
mended p X (Ok (Some a)) x = changed p (along a X) x
mended p X (Err e) x = x

-- the text that recover leaves: that of the mended tile, or the one that was lent
abbrev pub Recovered : ℕ → (ℕ → ℕ) → Hurt → List ℕ → List ℕ → List ℕ → Type 0
Recovered p X (Ok None) scan text new = new ≡ text_of p scan
Recovered p X (Ok (Some a)) scan text new = new ≡ text_of p (changed p (along a X) scan)
Recovered p X (Err e) scan text new = new ≡ text

-- what is said of it
pub data Told (p : ℕ) (X : ℕ → ℕ) : Hurt → Said → Type 0 where
  nothing : Told p X (Ok None) clean
  line : {a : Line} {s : Said} → Called p a X s → Told p X (Ok (Some a)) s
  more : Told p X (Err unclear.Damaged) (refused 5)
  doubtful : Told p X (Err unclear.Doubtful) (refused 8)

-- and of what is not known: its refusal
pub told_unclear : (p : ℕ) (X : ℕ → ℕ) (e : Unclear) → Told p X (Err e) (refused (number_of (refusal_of e)))
told_unclear p X unclear.Damaged = more
told_unclear p X unclear.Doubtful = doubtful

-- ---- the outcome

module _ (kind : Kind) (p l : ℕ) (x : List ℕ) (X : ℕ → ℕ) (a : Admitted kind p l (TileLength p x) size.well) where
  -- what the search found of the tile's sums
  abbrev pub Found : Hurt → Type 0
  Found which = hurt.Found p l (sum p 1 (cell p x)) (sum p l (cell p x)) X which

  -- where the sums are not one byte the tile is not good
  spoiled : (AllOne p (sum p 1 (cell p x)) (sum p l (cell p x)) → ⊥) → Good p l x → ⊥
  spoiled d g = d (good_one p l x (omega (arith, (slope_of_lem a).high)) g)

  -- a line that the tile has, and that the sums do not agree along, explains nothing
  disagrees : (b : Line) → (AllOne p (sum p 1 (cell p x)) (sum p l (cell p x)) → ⊥)
      → (number b < p - 1 → Agree p l (sum p 1 (cell p x)) (sum p l (cell p x)) b → ⊥) → Unexplained p l x b
  disagrees b d f = line_unexplained p l b x (slope_of_lem a) (spoiled d) f

  -- the tile by which a line explains x is the only one, as the search found
  sole : {b : Line} (z : List ℕ) → (AllOne p (sum p 1 (cell p x)) (sum p l (cell p x)) → ⊥) → number b < p - 1 → Added p (along b X) x z → Explains p l b x z
      → hurt.Alone p l (sum p 1 (cell p x)) (sum p l (cell p x)) X b → Only (ByLine p l x) z
  sole {b} z d h added by (hurt.reaching all) = once_only (reach_once p l x (slope_of_lem a) all) (record { line = b; explains = by })
  sole {b} z d h added by (hurt.one_byte {k} once) =
      both_only p l x (slope_of_lem a) b (crossing b k) (crossing_crosses b k) by (explains_on p l b (crossing b k) x z by (once_crossing p b X x z k h added once))
  sole {b} z d h added by (hurt.uncrossed f) = line_only p l x (slope_of_lem a) b by (λ c y cross e. absurd (disagrees c d (λ q. f c q cross) y e))

  -- the line that was found explains x by the mended tile, and what is said names the difference
  by_line : {b : Line} → Found (Ok (Some b)) → Explains p l b x (changed p (along b X) x)
  by_line {b} (hurt.one d h e w alone) =
      line_explains p l b X x (changed p (along b X) x) (slope_of_lem a) (omega arith) (changed_length p (along b X) x) e w (changed_added p (along b X) x)

  pub named : {b : Line} {s : Said} → Found (Ok (Some b)) → Called p b X s → Named p x (changed p (along b X) x) s
  named {b} (hurt.one d h e w alone) called =
      let z = changed p (along b X) x in
      let good = (by_line (hurt.one d h e w alone)).good in
      called.names x z h (changed_added p (along b X) x) (λ none. spoiled d (same_good p l x z (λ i j hi hj. agree_at p x z i j hi hj (none i j)) good))

  -- nothing was found hurt; a line was; no line explains it; or it is doubtful
  ends_clean : Found (Ok None) → RepairTold kind p l x clean x
  ends_clean (hurt.good g) = is_good a (one_good p l x g)

  ends_mended : {b : Line} {s : Said} → Found (Ok (Some b)) → Called p b X s → RepairTold kind p l x s (changed p (along b X) x)
  ends_mended {b} (hurt.one d h e w alone) called =
      let f = hurt.one d h e w alone in
      is_hurt a (spoiled d) (Looked.one (sole (changed p (along b X) x) d h (changed_added p (along b X) x) (by_line f) alone) (named f called))

  ends_damaged : Found (Err unclear.Damaged) → RepairTold kind p l x (refused 5) x
  ends_damaged (hurt.more d none) = is_hurt a (spoiled d) (Looked.none (λ y t. disagrees t.line d (none t.line) y t.explains))

  ends_doubtful : Found (Err unclear.Doubtful) → RepairTold kind p l x (refused 8) x
  ends_doubtful (hurt.doubtful {c} {r} d hc hr e f two) =
      let S = slope_of_lem a in
      let y = (explained p l (Column c) x S (omega arith)).1 e in
      let z = (explained p l (Row r) x S (omega arith)).1 f in
      let differs = line_difference p l (Column c) x y.0 S hc ((explains_fills p l (Column c) x y.0).0 y.1) in
      is_hurt a (spoiled d) (Looked.several
      (more_several p l x S (Column c) (Row r) y.1
      (in_more p (Column c) x y.0 y.1.same two.one two.other two.apart
      (record { row = two.one_lt; column = hc; bytes = λ q. two.at_one (sym (differs two.one (omega (arith, two.one_lt))) ∙ ap (λ (v : ℕ). v ⊕ cell p y.0 two.one c) q ∙ self _) })
      (record { row = two.other_lt; column = hc; bytes = λ q. two.at_other (sym (differs two.other (omega (arith, two.other_lt))) ∙ ap (λ (v : ℕ). v ⊕ cell p y.0 two.other c) q ∙ self _) }))
      z.1 (λ h. h)))

  -- SO REPAIR ENDS RIGHT, whatever was found: with what is said of it, and the mended tile
  pub repair_ends : {which : Hurt} {s : Said} → Found which → Told p X which s → RepairTold kind p l x s (mended p X which x)
  repair_ends f nothing = ends_clean f
  repair_ends f (line c) = ends_mended f c
  repair_ends f more = ends_damaged f
  repair_ends f doubtful = ends_doubtful f

-- and RECOVER ENDS RIGHT, with the text of that tile
module _ (kind : Kind) (p l : ℕ) (scan text : List ℕ) (X : ℕ → ℕ) (a : Admitted kind p l (BothLengths p scan text) size.well) where
  tile_admitted : Admitted kind p l (TileLength p scan) size.well
  tile_admitted = admitted_some (λ lengths. lengths.0) a

  pub recover_ends : {which : Hurt} {s : Said} {new : List ℕ} → hurt.Found p l (sum p 1 (cell p scan)) (sum p l (cell p scan)) X which → Told p X which s
      → Recovered p X which scan text new → RecoverTold kind p l scan text s new
  recover_ends f nothing e = rw e (RecoverTold.recovers a granted_clean (repair_ends kind p l scan X tile_admitted f nothing))
  recover_ends f (line c) e =
      rw e (RecoverTold.recovers a (named_granted (named kind p l scan X tile_admitted f c)) (repair_ends kind p l scan X tile_admitted f (line c)))
  recover_ends f more e = rw e (RecoverTold.unrepaired a (record { tile = scan; told = repair_ends kind p l scan X tile_admitted f more }))
  recover_ends f doubtful e = rw e (RecoverTold.unrepaired a (record { tile = scan; told = repair_ends kind p l scan X tile_admitted f doubtful }))
