-- How far a search along a window has come, and what follows from a tile that it passes. Assumes nothing.
use Rattle.std.specs.Prelude.{◌≡◌, refl, Ok, Err, Option, Some, None, Bool, true, false, not, eqb, List, ◌++◌, ℕ, ◌+◌, ◌-◌, ◌≤◌, length, take, drop}
use Rattle.std.specs.Option.{option_eq}
use Rattle.std.proofs.Common.{sym, ap, eq-eqb, eqb-true, ◌∙◌, arith, length-drop, length-take-le}
use Rattle.code.specs.Tile.{tile_length}
use Rattle.size.specs.Once.{number_once}
use Rattle.size.specs.Refusal.{number_of}
use Rattle.size.specs.declared.Refusal.{Refusal}
use Rattle.size.specs.declared.Refusal.TheVariants.{CutShort}
use Rattle.promise.specs.Answer.{Said}
use Rattle.restorer.specs.Restore.{RestoreTold}
use Rattle.reel.specs.Answer.{tile, refused}
use Rattle.reel.specs.Calls.{NextTold}
use Rattle.reel.specs.Told.{tile_taken, tile_within}
use Rattle.reel.specs.Walks.{moves_on}
use Rattle.reel.specs.declared.Tile.{Tile}
use Rattle.window.specs.Window.{LookTold, a_tile, last_stop, stop, more_of_it, Seeks, passes}
use Rattle.window.specs.Treat.{Within, changed, tile_bytes, RestoredIn, TileTold, OnTile, there, no_tile as none, RestoresAt}
use Rattle.window.specs.declared.NoTile.TheVariants as no_tile
use Rattle.window.specs.declared.Sought.{Sought}

-- ---- a search

-- a search from one place and count has come to another: what is found from there on is found from the first one on
pub record Seeking (window : List ℕ) (last : Bool) (wanted : Option ℕ) (from before at n : ℕ) : Type 0 where
  pub few : n ≤ before + at
  pub so_far : (r : Sought) → Seeks window last wanted at n r → Seeks window last wanted from before r

pub seeking_first : (window : List ℕ) (last : Bool) (wanted : Option ℕ) (from before : ℕ) → Seeking window last wanted from before from before
seeking_first window last wanted from before = record { few = omega arith; so_far = λ r s. s }

pub seeking_on : {window : List ℕ} {last : Bool} {wanted : Option ℕ} {from before at n : ℕ} {t : Tile} → Seeking window last wanted from before at n
    → NextTold window at (tile t) → (wanted ≡ Some t.number → ⊥) → Seeking window last wanted from before (t.at + tile_length t.p) (n + 1)
seeking_on {window} {last} {wanted} {from} {before} {at} {n} going told other = record {
  few = omega (arith, going.few, (moves_on told).0);
  so_far = λ r s. going.so_far r (passes told other s);
}

-- the test for the number that is wanted, where it passes a tile and where it does not
pub other_number : (wanted : Option ℕ) (n : ℕ) → not (option_eq eqb wanted (Some n)) ≡ true → wanted ≡ Some n → ⊥
other_number None n e same = cc
other_number (Some m) n e same =
    let here : m ≡ n = cc in
    let none : false ≡ true = rw (eq-eqb m n here) at e in
    cc

is_equal : (b : Bool) → not b ≡ false → b ≡ true
is_equal true e = refl
is_equal false e = cc

pub wanted_number : (wanted : Option ℕ) (n : ℕ) → not (option_eq eqb wanted (Some n)) ≡ false → wanted ≡ Some n
wanted_number None n e = cc
wanted_number (Some m) n e = ap Some (eqb-true m n (is_equal (eqb m n) e))

-- ---- a tile lies within its window

pub looked_tile : {window : List ℕ} {at : ℕ} {last : Bool} {t : Tile} → LookTold window at last (Ok t) → NextTold window at (tile t)
looked_tile (a_tile told) = told

pub within : {window : List ℕ} {at : ℕ} {t : Tile} → NextTold window at (tile t) → Within window t
within told = record { size = (tile_taken told).0; whole = tile_within told }

pub bytes_long : {window : List ℕ} {t : Tile} → Within window t → length (tile_bytes window t) ≡ tile_length t.p
bytes_long {window} {t} w = length-take-le (tile_length t.p) (drop t.at window) (omega (arith, w.whole, length-drop t.at window))

-- what came back of a part is as long as the part was, so that it takes its place
pub put_back : (window : List ℕ) (at k : ℕ) (new : List ℕ) → length new ≡ k → take at window ++ (new ++ drop k (drop at window)) ≡ changed window at new
put_back window at k new e = ap (λ (n : ℕ). take at window ++ (new ++ drop n (drop at window))) (sym e)

-- ---- what is done with a tile, and put back

-- the part of a window where a tile's bytes are is cut out by the places where they begin and end; what the call makes of it stands there
-- then
module _ {Answer : Type 0} (refuse : ℕ → Answer) (Told : Tile → List ℕ → Answer → List ℕ → Type 0) (window : List ℕ) (at : ℕ) {t : Tile} (told : NextTold window at (tile t)) where
  placed_behind : (end : ℕ) (a : Answer) (new : List ℕ) → end ≡ t.at + tile_length t.p → length new ≡ length (take (end - t.at) (drop t.at window))
      → Told t (take (end - t.at) (drop t.at window)) a new
      → OnTile refuse Told (λ u x. changed window u.at x) window window at a (take t.at window ++ (new ++ drop (end - t.at) (drop t.at window)))
  placed_behind end a new e long done =
      let count : end - t.at ≡ tile_length t.p = omega (arith, e) in
      let same : length new ≡ end - t.at = long ∙ length-take-le (end - t.at) (drop t.at window) (omega (arith, count, length-drop t.at window, tile_within told)) in
      rw (put_back window t.at (end - t.at) new same) (there told (rw count at done))

  pub placed : (start end : ℕ) (a : Answer) (new : List ℕ) → start ≡ t.at → end ≡ t.at + tile_length t.p
      → length new ≡ length (take (end - start) (drop start window)) → Told t (take (end - start) (drop start window)) a new
      → OnTile refuse Told (λ u x. changed window u.at x) window window at a (take start window ++ (new ++ drop (end - start) (drop start window)))
  placed start end a new b e long done = rw b (placed_behind end a new e (rw b at long) (rw b at done))

-- a tile is restored, and put back
pub restored_in : {window : List ℕ} {t : Tile} {said : Said} {end : ℕ} (new : List ℕ) → Within window t → end ≡ t.at + tile_length t.p
    → length new ≡ length (take (end - t.at) (drop t.at window))
    → RestoreTold t.kind t.p t.l (take (end - t.at) (drop t.at window)) t.first t.second said new
    → RestoredIn window t said (take t.at window ++ (new ++ drop (end - t.at) (drop t.at window)))
restored_in {window} {t} {said} {end} new w e long done =
    let count : end - t.at ≡ tile_length t.p = omega (arith, e) in
    let same : length new ≡ end - t.at = long ∙ length-take-le (end - t.at) (drop t.at window) (omega (arith, count, length-drop t.at window, w.whole)) in
    record { new = new; told = rw count at done; long = same ∙ count; is = put_back window t.at (end - t.at) new same }

pub restores_at : {window after : List ℕ} {at : ℕ} {t : Tile} {said : Said} → NextTold window at (tile t) → RestoredIn window t said after
    → RestoresAt window at said after
restores_at {window} {after} {at} {t} {said} told r = rw r.is (there told (r.told, r.long ∙ sym (bytes_long (within told))))

-- where no tile is told, nothing is done
pub refused_there : {Answer : Type 0} (refuse : ℕ → Answer) (Told : Tile → List ℕ → Answer → List ℕ → Type 0) (back : Tile → List ℕ → List ℕ) (same window : List ℕ)
    (at : ℕ) (r : Refusal) → TileTold window at (Err r) → OnTile refuse Told back same window at (refuse (number_of r)) same
refused_there refuse Told back same window at r told = none told.1 told.2 told.3

-- ---- a look at what is refused

-- a record that is cut by a window that is not the last, a refusal in the last one, and any other refusal
pub cut : (window : List ℕ) (at : ℕ) (last : Bool) (r : Refusal) (from : ℕ) → NextTold window at (refused (number_of r) from) → r ≡ CutShort → last ≡ false
    → LookTold window at last (Err no_tile.More)
cut window at last r from told e not_last = rw not_last (more_of_it (rw e at told))

pub stops_last : (window : List ℕ) (at : ℕ) (last : Bool) (r : Refusal) (from : ℕ) → NextTold window at (refused (number_of r) from) → last ≡ true
    → LookTold window at last (Err (no_tile.Stopped r from))
stops_last window at last r from told is_last = rw is_last (last_stop told)

pub stops : (window : List ℕ) (at : ℕ) (last : Bool) (r : Refusal) (from : ℕ) → NextTold window at (refused (number_of r) from) → (r ≡ CutShort → ⊥)
    → LookTold window at last (Err (no_tile.Stopped r from))
stops window at true r from told other = last_stop told
stops window at false r from told other = stop told (λ e. other (number_once r CutShort e))
