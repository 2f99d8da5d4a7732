-- Wrong programs, each broken by a theorem: no such program meets its contract. Assumes nothing.
use Rattle.std.specs.Prelude.{◌≡◌, refl, Err, Some, Bool, false, List, [], ◌∷◌, ℕ, ◌+◌, ◌<◌, get_or, drop}
use Rattle.std.proofs.Common.{sym, ap, subst, ◌∙◌, arith}
use Rattle.std.proofs.Math.Seq.{paste}
use Rattle.size.specs.declared.Refusal.TheVariants.{CutShort}
use Rattle.code.specs.declared.Line.{Line}
use Rattle.promise.specs.Answer.{Said}
use Rattle.promise.specs.Calls.{FillTold}
use Rattle.sheet.specs.Answer as sheet
use Rattle.sheet.specs.Calls.{CorrectTold}
use Rattle.reel.specs.Answer.{tile, end, NoTile}
use Rattle.reel.specs.Answer as reel
use Rattle.reel.specs.Calls.{NextTold}
use Rattle.reel.specs.Once.{next_told_once, tile_once}
use Rattle.reel.specs.declared.Tile.{Tile}
use Rattle.window.specs.Window.{LookTold, stop, Seeks, comes, passes}
use Rattle.window.specs.Treat.{there, no_tile, FillsAt, CorrectsAt}
use Rattle.window.specs.Untouched.{before, untouched}
use Rattle.window.specs.declared.NoTile.TheVariants as no_tile
use Rattle.window.specs.declared.Sought.{Sought}

-- ---- look

-- one that takes the end of a window for that of the reel
pub ends_with_the_window : {window : List ℕ} {at : ℕ} → LookTold window at false (Err no_tile.End) → ⊥
ends_with_the_window = elim [ ]

-- one that refuses a record that the window cuts
pub stops_at_the_edge : {window : List ℕ} {at from : ℕ} → LookTold window at false (Err (no_tile.Stopped CutShort from)) → ⊥
stops_at_the_edge (stop told other) = other refl

-- ---- seek

-- one that goes on where the number stands, for a later tile that has it too
pub goes_past : {window : List ℕ} {last : Bool} {number at n : ℕ} {t : Tile} {r : Sought} → NextTold window at (tile t) → t.number ≡ number
    → Seeks window last (Some number) at n r → r.place ≡ at
goes_past told same (comes look over) = refl
goes_past {window} {at = at} {t = t} told same (passes {t = u} told' other more) =
    absurd (other (ap Some (sym same ∙ ap (λ (v : Tile). v.number) (tile_once (next_told_once window at (tile t) (tile u) told told')))))

-- one that counts the tile that it was asked for among those that it passed
pub counts_it_too : {window : List ℕ} {last : Bool} {number at n : ℕ} {t : Tile} {r : Sought} → NextTold window at (tile t) → t.number ≡ number
    → Seeks window last (Some number) at n r → r.tiles ≡ n + 1 → ⊥
counts_it_too told same (comes look over) e = omega (arith, e)
counts_it_too {window} {at = at} {t = t} told same (passes {t = u} told' other more) e =
    other (ap Some (sym same ∙ ap (λ (v : Tile). v.number) (tile_once (next_told_once window at (tile t) (tile u) told told'))))

-- ---- fill and correct

-- one that marks in the header that the tile was filled
pub fills_the_header : (a b : Line) {window after : List ℕ} {at i : ℕ} {t : Tile} {said : Said} → NextTold window at (tile t) → FillsAt a b window at said after
    → i < t.at → (get_or after i 0 ≡ get_or window i 0 → ⊥) → ⊥
fills_the_header a b {window} {after} {at} {i} told filled lt other =
    other (untouched _ (λ t bytes said new. FillTold t.kind t.p t.l bytes a b said new) window at told filled i (before lt))

-- one that fills what follows where no tile stands
pub fills_without_tile : (a b : Line) {window after : List ℕ} {at : ℕ} {said : Said} {found : reel.Said} → NextTold window at found → NoTile found
    → FillsAt a b window at said after → (after ≡ window → ⊥) → ⊥
fills_without_tile a b {window} {at = at} {found = found} told none (there {t = t} told' done) other =
    subst NoTile (next_told_once window at found (tile t) told told') none
fills_without_tile a b told none (no_tile told' none' why) other = other refl

-- the same of a sheet
pub corrects_the_header : (records : List ℕ) {window after : List ℕ} {at i : ℕ} {t : Tile} {said : sheet.Said} → NextTold window at (tile t)
    → CorrectsAt records window at said after → i < t.at → (get_or after i 0 ≡ get_or window i 0 → ⊥) → ⊥
corrects_the_header records {window} {after} {at} {i} told corrected lt other =
    other (untouched _ (λ t bytes said new. CorrectTold t.kind t.p t.l bytes records said new) window at told corrected i (before lt))

-- ---- move down

-- three bytes of which the last two are moved: 1 2 3 becomes 2 3 3, and not 3 3 3, as of one that moves the last byte first
pub moved : paste {A = ℕ} (1 ∷ 2 ∷ 3 ∷ []) 0 (drop 1 (1 ∷ 2 ∷ 3 ∷ [])) 2 ≡ 2 ∷ 3 ∷ 3 ∷ []
moved = refl
