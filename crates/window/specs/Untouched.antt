-- What is done with one tile touches that tile's bytes alone: the headers, the other tiles and all else stay as they were (SPEC 12.2).
-- Assumes nothing.
use Rattle.std.specs.Prelude.{◌≡◌, refl, List, ◌++◌, ℕ, ◌+◌, ◌-◌, ◌≤◌, ◌<◌, length, take, drop, get_or}
use Rattle.std.proofs.Common.{sym, ap, subst, ◌∙◌, arith, length-append, length-drop, length-take-le, get_or-take, get_or-drop, get_or-append-add}
use Rattle.std.proofs.Math.ListN.{get_or-append}
use Rattle.code.specs.Tile.{tile_length}
use Rattle.reel.specs.Answer as reel
use Rattle.reel.specs.Calls.{NextTold}
use Rattle.reel.specs.Told.{tile_within}
use Rattle.reel.specs.Once.{next_told_once, tile_once}
use Rattle.reel.specs.declared.Tile.{Tile}
use Rattle.window.specs.Treat.{tile_bytes, changed, OnTile, there, no_tile}
use Rattle.window.specs.Going.{within, bytes_long}

module _ (window : List ℕ) (at : ℕ) (new : List ℕ) (fits : at + length new ≤ length window) where
  front : length (take at window) ≡ at
  front = length-take-le at window (omega arith)

  -- before what was put there ..
  pub before_change : (i : ℕ) → i < at → get_or (changed window at new) i 0 ≡ get_or window i 0
  before_change i lt = get_or-append (take at window) (new ++ drop (length new) (drop at window)) 0 i (omega (arith, front)) ∙ get_or-take at window i 0 lt

  -- .. and behind it
  behind_by : (k : ℕ) → get_or (changed window at new) (length (take at window) + (length new + k)) 0 ≡ get_or window (at + (length new + k)) 0
  behind_by k =
      get_or-append-add (take at window) (new ++ drop (length new) (drop at window)) (length new + k) 0
      ∙ get_or-append-add new (drop (length new) (drop at window)) k 0
      ∙ get_or-drop (length new) (drop at window) k 0
      ∙ get_or-drop at window (length new + k) 0

  pub behind_change : (i : ℕ) → at + length new ≤ i → get_or (changed window at new) i 0 ≡ get_or window i 0
  behind_change i le =
      let k = i - at - length new in
      let there : length (take at window) + (length new + k) ≡ i = omega (arith, front) in
      let here : at + (length new + k) ≡ i = omega arith in
      sym (ap (λ (n : ℕ). get_or (changed window at new) n 0) there) ∙ behind_by k ∙ ap (λ (n : ℕ). get_or window n 0) here

  pub same_length : length (changed window at new) ≡ length window
  same_length =
      omega (arith, length-append (take at window) (new ++ drop (length new) (drop at window)), length-append new (drop (length new) (drop at window)), front, length-drop (length new) (drop at window), length-drop at window)

-- a place is outside a tile's bytes
pub data Outside (t : Tile) (i : ℕ) : Type 0 where
  before : i < t.at → Outside t i
  behind : t.at + tile_length t.p ≤ i → Outside t i

-- ALL BYTES BUT THE TILE'S STAY, whatever the call does with those
module _ {Answer : Type 0} (refuse : ℕ → Answer) (Told : Tile → List ℕ → Answer → List ℕ → Type 0) (window : List ℕ) (at : ℕ) where
  abbrev Treats : Answer → List ℕ → Type 0
  Treats = OnTile refuse (λ t bytes a new. Told t bytes a new × (length new ≡ length bytes)) (λ t new. changed window t.at new) window window at

  outside_stays : {t : Tile} (new : List ℕ) → NextTold window at (reel.tile t) → length new ≡ length (tile_bytes window t) → (i : ℕ) → Outside t i
      → get_or (changed window t.at new) i 0 ≡ get_or window i 0
  outside_stays {t} new told long i (before lt) = before_change window t.at new (omega (arith, tile_within told, long, bytes_long (within told))) i lt
  outside_stays {t} new told long i (behind le) =
      behind_change window t.at new (omega (arith, tile_within told, long, bytes_long (within told))) i (omega (arith, le, long, bytes_long (within told)))

  pub untouched : {t : Tile} {a : Answer} {after : List ℕ} → NextTold window at (reel.tile t) → Treats a after → (i : ℕ) → Outside t i → get_or after i 0 ≡ get_or window i 0
  untouched {t} told (there {t = u} {new} told' done) i out =
      outside_stays new told' done.1 i (subst (λ (v : Tile). Outside v i) (tile_once (next_told_once window at (reel.tile t) (reel.tile u) told told')) out)
  untouched told (no_tile told' none why) i out = refl
