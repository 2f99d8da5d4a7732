-- The contracts settle the lines: a place has one line, a reel one closing line and one listing. Assumes nothing.
use Rattle.std.specs.Prelude.{◌≡◌, refl, List, ◌++◌, ℕ, length, take, drop}
use Rattle.std.proofs.Common.{sym, ap, subst, arith}
use Rattle.code.specs.Tile.{tile_length}
use Rattle.promise.specs.Answer as restore
use Rattle.restorer.specs.Once.{restore_told_once}
use Rattle.reel.specs.Answer.{Said, tile, end, refused, NoTile}
use Rattle.reel.specs.Calls.{NextTold, AfterTold}
use Rattle.reel.specs.Once.{next_told_once, tile_once, after_once}
use Rattle.reel.specs.Walks.{walk_once}
use Rattle.reel.specs.declared.Tile.{Tile}
use Rattle.lettering.specs.Line.{tile_line, end_line, stopped_line}
use Rattle.listing.specs.Whole as whole
use Rattle.listing.specs.Whole.{Lists}
use Rattle.listing.specs.Listing.{RestoreSays, TileListed, lists, Closes, ends, stops}

-- restoring a tile says one thing
says_once : (t : Tile) (bytes : List ℕ) (a b : restore.Said) → RestoreSays t bytes a → RestoreSays t bytes b → a ≡ b
says_once t bytes a b x y = (restore_told_once t.kind t.p t.l bytes t.first t.second a b x.new y.new x.told y.told).0

pub listed_once : {reel : List ℕ} {at : ℕ} {a b : List ℕ} → TileListed reel at a → TileListed reel at b → a ≡ b
listed_once {reel} {at} (lists {t} {said} told says) (lists {t = u} {said = other} told' says') =
    let e = tile_once (next_told_once reel at (tile t) (tile u) told told') in
    let said_is = says_once u (take (tile_length u.p) (drop u.at reel)) said other (subst (λ (x : Tile). RestoreSays x (take (tile_length x.p) (drop x.at reel)) said) e says) says' in
    λ i. tile_line (e i).number (e i).p (e i).l (said_is i)

pub closes_once : {reel : List ℕ} {a b : List ℕ} → Closes reel a → Closes reel b → a ≡ b
closes_once (ends x) (ends y) = ap (λ (tiles : List Tile). end_line (length tiles)) (walk_once x y).0
closes_once (ends x) (stops y) = let e = (walk_once x y).1 in let z : ◌≡◌ {A = ℕ} 0 1 = cc in absurd (omega arith)
closes_once (stops x) (ends y) = let e = (walk_once x y).1 in let z : ◌≡◌ {A = ℕ} 0 1 = cc in absurd (omega arith)
closes_once (stops {n = m} {at = from} x) (stops {n} {at} y) =
    let e = (walk_once x y).1 in
    let n_is : m ≡ n = cc in
    let at_is : from ≡ at = cc in
    λ i. stopped_line (n_is i) (at_is i)

-- ---- the whole listing

-- where a tile is listed, no closing line stands
tile_not : {reel : List ℕ} {at at' : ℕ} {line : List ℕ} {said : Said} → at ≡ at' → TileListed reel at line → NextTold reel at' said → NoTile said → ⊥
tile_not {reel} {at} {at'} {line} {said} e (lists {t} told says) other none =
    subst NoTile (next_told_once reel at' said (tile t) other (subst (λ (k : ℕ). NextTold reel k (tile t)) e told)) none

-- it is the end
abbrev Ends : Said → Type 0
Ends (tile t) = ⊥
Ends end = Unit {0}
Ends (refused n from) = ⊥

same_lists : {reel : List ℕ} {at at' n : ℕ} {a b : List ℕ} → at ≡ at' → Lists reel at n a → Lists reel at' n b → a ≡ b
same_lists e (whole.ends x) (whole.ends y) = refl
same_lists {reel} {at} {at'} e (whole.ends x) (whole.stops y) =
    absurd (subst Ends (next_told_once reel at' end _ (subst (λ (k : ℕ). NextTold reel k end) e x) y) tt)
same_lists e (whole.ends x) (whole.goes_on y to more) = absurd (tile_not (sym e) y x tt)
same_lists {reel} {at} {at'} e (whole.stops x) (whole.ends y) =
    absurd (subst Ends (next_told_once reel at end _ (subst (λ (k : ℕ). NextTold reel k end) (sym e) y) x) tt)
same_lists {reel} {at} {at'} e (whole.stops {no = k} {from = i} x) (whole.stops {no = m} {from = j} y) =
    let same = next_told_once reel at' (refused k i) (refused m j) (subst (λ (z : ℕ). NextTold reel z (refused k i)) e x) y in
    let k_is : k ≡ m = cc in
    let i_is : i ≡ j = cc in
    λ z. stopped_line (k_is z) (i_is z)
same_lists e (whole.stops x) (whole.goes_on y to more) = absurd (tile_not (sym e) y x tt)
same_lists e (whole.goes_on x to more) (whole.ends y) = absurd (tile_not e x y tt)
same_lists e (whole.goes_on x to more) (whole.stops y) = absurd (tile_not e x y tt)
same_lists {reel} {at} {at'} e (whole.goes_on {to = u} {line = p} x to more) (whole.goes_on {to = v} y to' more') =
    let line_is = listed_once (subst (λ (k : ℕ). TileListed reel k p) e x) y in
    let rest = same_lists (after_once reel at' u v (subst (λ (k : ℕ). AfterTold reel k u) e to) to') more more' in
    λ z. line_is z ++ rest z

-- a reel has one listing
pub lists_once : {reel : List ℕ} {at n : ℕ} {a b : List ℕ} → Lists reel at n a → Lists reel at n b → a ≡ b
lists_once x y = same_lists refl x y
