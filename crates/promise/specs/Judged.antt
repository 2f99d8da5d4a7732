-- WHAT JUDGING SETTLES (SPEC 5.5), over the contracts of judge and fill: a tile is accepted exactly if it is the one that fill makes of the
-- scan, told the same lines. So no wrong tile is ever accepted, whoever made it. Assumes nothing.
use Rattle.std.specs.Prelude.{◌≡◌, refl, ◌↔◌, List, ℕ, length}
use Rattle.std.proofs.Common.{sym, inr, ⊎_elim, arith}
use Rattle.residue.specs.Size.{Size, Allowed}
use Rattle.code.specs.Tile.{tile_length, Good, EqualOutsideBoth, Fills}
use Rattle.code.specs.Margin.{DifferOutside}
use Rattle.code.proofs.Lost.{differ_or_agree}
use Rattle.code.specs.Count.{once_only}
use Rattle.code.specs.Fillings.{fills_once}
use Rattle.code.specs.Kind.{allowed_taken}
use Rattle.code.specs.declared.Kind.{Kind}
use Rattle.code.specs.declared.Kind.TheVariants.{New}
use Rattle.code.specs.declared.Line.{Line}
use Rattle.size.specs.Answer.{no_slope}
use Rattle.promise.specs.Answer.{Said, done, refused}
use Rattle.promise.specs.Calls.{judged, Looked, Has, FillTold, JudgeTold}
use Rattle.promise.specs.Admit.{admits, admitted_well, admitted_low, slope_of_lem}
use Rattle.promise.specs.Once.{fill_told_once, judge_told_once}
use Rattle.promise.specs.Kinds.{fill_either}

module _ {p l : ℕ} {scan restored : List ℕ} {a b : Line} where
  -- what is accepted fill makes, told either kind ..
  accepted_told : (k : Kind) → JudgeTold p l scan restored a b done → FillTold k p l scan a b done restored
  accepted_told k (JudgeTold.accepts h ha hb g same) =
      let w = admitted_well h in
      let f : Fills p l a b scan restored = record { size = w.2.1; good = g; agrees = same } in
      FillTold.has_lines (admits w.0 (allowed_taken k p l w.1) w.2.0) ha hb
      (Looked.one (once_only (fills_once p l scan (slope_of_lem h) a b (inr w.1.reach)) f) refl)

  -- .. and what fill makes of a new tile is accepted
  told_accepted : FillTold New p l scan a b done restored → JudgeTold p l scan restored a b done
  told_accepted (FillTold.has_lines h ha hb (Looked.one o q)) =
      let w = admitted_well h in
      JudgeTold.accepts (admits w.0 w.1 (w.2, o.is.size)) ha hb o.is.good o.is.agrees

  -- AN ACCEPTED TILE IS FILL'S: fill, told either kind and the same lines, is done with the scan, and leaves this very tile
  pub accepted_filled : {k : Kind} {filled : Said} {new : List ℕ} → JudgeTold p l scan restored a b done → FillTold k p l scan a b filled new
      → (filled ≡ done) × (new ≡ restored)
  accepted_filled {k} {filled} {new} t u = fill_told_once k p l scan a b filled done new restored u (accepted_told k t)

  -- ACCEPTANCE IS SETTLED BY FILL: a tile is accepted exactly if fill is done and leaves it
  pub settled_by_fill : {said filled : Said} {new : List ℕ} → JudgeTold p l scan restored a b said → FillTold New p l scan a b filled new
      → (said ≡ done) ↔ ((filled ≡ done) × (new ≡ restored))
  settled_by_fill {said} t u = (
    λ e. accepted_filled (rw e at t) u,
    λ e. judge_told_once p l scan restored a b said done t (told_accepted (rw (e.0, e.1) at u)),
  )

  -- where fill refuses the scan nothing is accepted
  pub unfilled_refused : {k : Kind} {n : ℕ} {new : List ℕ} → FillTold k p l scan a b (refused n) new → JudgeTold p l scan restored a b done → ⊥
  unfilled_refused u t = let e = (accepted_filled t u).0 in let z : ◌≡◌ {A = ℕ} 0 1 = cc in omega arith

-- FILL'S TILE IS ACCEPTED, always: told that the tile is new, or old with a slope that is allowed
pub filled_accepted : {p l : ℕ} {scan new : List ℕ} {a b : Line} {said : Said} → FillTold New p l scan a b done new → JudgeTold p l scan new a b said
    → said ≡ done
filled_accepted u t = (settled_by_fill t u).1 (refl, refl)

pub filled_either_accepted : {k : Kind} {p l : ℕ} {scan new : List ℕ} {a b : Line} {said : Said} → Allowed p l → FillTold k p l scan a b done new
    → JudgeTold p l scan new a b said → said ≡ done
filled_either_accepted allowed u = filled_accepted (fill_either allowed u)

-- NO WRONG TILE IS ACCEPTED: of one scan and two lines at most one is ..
pub accepted_once : {p l : ℕ} {scan x y : List ℕ} {a b : Line} → JudgeTold p l scan x a b done → JudgeTold p l scan y a b done → x ≡ y
accepted_once t u = (accepted_filled u (accepted_told New t)).1

-- .. and where the scan is that of a good tile with changes in these lines, it is that tile, which is accepted
module _ {p l : ℕ} {scan x : List ℕ} {a b : Line} (good : Good p l x) (size : length x ≡ tile_length p) (same : EqualOutsideBoth p a b x scan) where
  original : Size p → Allowed p l → length scan ≡ tile_length p → Has p a → Has p b → JudgeTold p l scan x a b done
  original s allowed e ha hb = JudgeTold.accepts (admits s allowed (e, size)) ha hb good (λ i j hi hj d q. sym (same i j hi hj d q))

  pub original_accepted : {said : Said} → Size p → Allowed p l → length scan ≡ tile_length p → Has p a → Has p b → JudgeTold p l scan x a b said → said ≡ done
  original_accepted {said} s allowed e ha hb t = judge_told_once p l scan x a b said done t (original s allowed e ha hb)

  pub accepted_original : {restored : List ℕ} → JudgeTold p l scan restored a b done → restored ≡ x
  accepted_original (JudgeTold.accepts h ha hb g agrees) =
      let w = admitted_well h in accepted_once (JudgeTold.accepts h ha hb g agrees) (original w.0 w.1 w.2.0 ha hb)

-- ---- what the numbers tell

module _ {p l : ℕ} {scan restored : List ℕ} {a b : Line} where
  -- 2, WHERE A SLOPE IS NOT ALLOWED: nothing is judged there, whatever the tiles and the lines
  pub unallowed_judged : {said : Said} → Size p → (Allowed p l → ⊥) → JudgeTold p l scan restored a b said → said ≡ refused 2
  unallowed_judged {said} s f t = judge_told_once p l scan restored a b said (refused 2) t (JudgeTold.refuses (judged (no_slope s f)))

  -- 10: the restored tile is not good, and 11: it is, and some cell outside the lines differs, whose row and column can be told
  pub judged_10 : JudgeTold p l scan restored a b (refused 10) → Good p l restored → ⊥
  judged_10 (JudgeTold.refuses h) = absurd (omega (arith, admitted_low h))
  judged_10 (JudgeTold.not_good h ha hb bad) = bad

  pub judged_11 : JudgeTold p l scan restored a b (refused 11) → Good p l restored × DifferOutside p a b scan restored
  judged_11 (JudgeTold.refuses h) = absurd (omega (arith, admitted_low h))
  judged_11 (JudgeTold.elsewhere h ha hb g f) = (g, ⊎_elim (λ d. d) (λ same. absurd (f same)) (differ_or_agree p a b scan restored))
