-- The contracts settle the answers and the bytes: two outcomes that are allowed of one window are the same. Assumes nothing.
use Rattle.std.specs.Prelude.{◌≡◌, refl, Result, Ok, Err, Option, Some, Bool, true, false, cond, List, ℕ, ◌+◌, eqb, length}
use Rattle.std.proofs.Common.{sym, ap, subst, ◌∙◌, ne_eqb}
use Rattle.code.specs.Tile.{tile_length}
use Rattle.code.specs.declared.Line.{Line}
use Rattle.size.specs.Refusal.{number_of}
use Rattle.size.specs.Once.{refusal_of, back}
use Rattle.promise.specs.Once.{Single, fill_told_once, read_told_once}
use Rattle.restorer.specs.Once.{restore_told_once}
use Rattle.sheet.specs.Once.{correct_told_once}
use Rattle.reel.specs.Answer as reel
use Rattle.reel.specs.Calls.{NextTold}
use Rattle.reel.specs.Once.{next_told_once, tile_once}
use Rattle.reel.specs.declared.Tile.{Tile}
use Rattle.window.specs.Window.{LookTold, a_tile, the_end, last_stop, stop, more_behind, more_of_it, IsOver, Seeks, comes, passes}
use Rattle.window.specs.Treat.{tile_bytes, WhyNot, OnTile, there, no_tile, RestoresAt, FillsAt, CorrectsAt, ReadsAt}
use Rattle.window.specs.declared.NoTile.{NoTile}
use Rattle.window.specs.declared.NoTile.TheVariants as no_tile
use Rattle.window.specs.declared.Sought.{Sought}

-- ---- a look

-- what is said by what stands there
abbrev look_of : Bool → reel.Said → Result Tile NoTile
look_of last (reel.tile t) = Ok t
look_of true reel.end = Err no_tile.End
look_of false reel.end = Err no_tile.More
look_of true (reel.refused n from) = Err (no_tile.Stopped (refusal_of n) from)
look_of false (reel.refused n from) = cond (eqb n 7) (Err no_tile.More) (Err (no_tile.Stopped (refusal_of n) from))

abbrev LookIs : List ℕ → ℕ → Bool → Result Tile NoTile → Type 0
LookIs window at last s = (said : reel.Said) × NextTold window at said × (s ≡ look_of last said)

look_is : {window : List ℕ} {at : ℕ} {last : Bool} {s : Result Tile NoTile} → LookTold window at last s → LookIs window at last s
look_is {last = last} (a_tile {t = t} told) = (reel.tile t, told, refl)
look_is (the_end told) = (reel.end, told, refl)
look_is (last_stop {r} {from} told) = (reel.refused (number_of r) from, told, ap (λ x. Err (no_tile.Stopped x from)) (sym (back r)))
look_is (stop {r} {from} told other) =
    (reel.refused (number_of r) from, told, ap (λ x. Err (no_tile.Stopped x from)) (sym (back r)) ∙ sym (ap (λ (b : Bool). cond b (Err no_tile.More) (Err (no_tile.Stopped (refusal_of (number_of r)) from))) (ne_eqb (number_of r) 7 other)))
look_is (more_behind told) = (reel.end, told, refl)
look_is (more_of_it {from} told) = (reel.refused 7 from, told, refl)

pub look_once : {window : List ℕ} {at : ℕ} {last : Bool} {a b : Result Tile NoTile} → LookTold window at last a → LookTold window at last b → a ≡ b
look_once {window} {at} {last} x y =
    let p = look_is x in
    let q = look_is y in
    p.2 ∙ ap (look_of last) (next_told_once window at p.0 q.0 p.1 q.1) ∙ sym q.2

-- ---- a search

-- where it is over, no tile is passed
over_there : {window : List ℕ} {at at' : ℕ} {last : Bool} {wanted : Option ℕ} {s : Result Tile NoTile} {t : Tile} → at ≡ at' → LookTold window at last s → IsOver wanted s
    → NextTold window at' (reel.tile t) → (wanted ≡ Some t.number → ⊥) → ⊥
over_there {window} {at} {at'} {last} {wanted} {s} {t} e look over told other =
    other (subst (IsOver wanted) (look_once look (a_tile (subst (λ (k : ℕ). NextTold window k (reel.tile t)) (sym e) told))) over)

same_search : {window : List ℕ} {last : Bool} {wanted : Option ℕ} {at at' n : ℕ} {a b : Sought} → at ≡ at' → Seeks window last wanted at n a → Seeks window last wanted at' n b → a ≡ b
same_search {window} {last} e (comes {n = n} {s} x over) (comes {s = s'} y over') =
    let same = look_once (subst (λ (k : ℕ). LookTold window k last s) e x) y in
    λ i. record { place = e i; tiles = n; goal = same i }
same_search e (comes x over) (passes y other more) = absurd (over_there e x over y other)
same_search e (passes x other more) (comes y over) = absurd (over_there (sym e) y over x other)
same_search {window} {at' = at'} e (passes {t = t} x other more) (passes {t = u} y other' more') =
    let same = tile_once (next_told_once window at' (reel.tile t) (reel.tile u) (subst (λ (k : ℕ). NextTold window k (reel.tile t)) e x) y) in
    same_search (λ i. (same i).at + tile_length (same i).p) more more'

pub seek_once : {window : List ℕ} {last : Bool} {wanted : Option ℕ} {at n : ℕ} {a b : Sought} → Seeks window last wanted at n a → Seeks window last wanted at n b → a ≡ b
seek_once x y = same_search refl x y

-- ---- one tile

why_once : (said : reel.Said) {m n : ℕ} → reel.NoTile said → WhyNot said m → WhyNot said n → m ≡ n
why_once (reel.tile _) {m = m} {n = n} none x y = elim none [ ]
why_once reel.end none x y = x ∙ sym y
why_once (reel.refused k from) none x y = x ∙ sym y

-- where what is told of a tile's bytes is told once, what becomes of the tile at a place is
module _ {Answer : Type 0} (refuse : ℕ → Answer) (Told : Tile → List ℕ → Answer → List ℕ → Type 0) (give : Tile → List ℕ → List ℕ) (same window : List ℕ) (at : ℕ)
    (once : (t : Tile) (bytes : List ℕ) → Single (Told t bytes)) where
  pub on_tile_once : Single (OnTile refuse Told give same window at)
  on_tile_once a b x y (there {t} {new = m} told done) (there {t = u} {new = n} told' done') =
      let e = tile_once (next_told_once window at (reel.tile t) (reel.tile u) told told') in
      let both = once u (tile_bytes window u) a b m n (subst (λ (v : Tile). Told v (tile_bytes window v) a m) e done) done' in
      (both.0, λ i. give (e i) (both.1 i))
  on_tile_once a b x y (there {t = t} told done) (no_tile {said} told' none why) = absurd (subst reel.NoTile (next_told_once window at said (reel.tile t) told' told) none)
  on_tile_once a b x y (no_tile {said} told none why) (there {t} told' done) = absurd (subst reel.NoTile (next_told_once window at said (reel.tile t) told told') none)
  on_tile_once a b x y (no_tile {said} {n = m} told none why) (no_tile {said = other} told' none' why') =
      let e = next_told_once window at said other told told' in
      (ap refuse (why_once other none' (subst (λ (z : reel.Said). WhyNot z m) e why) why'), refl)

-- that the bytes are as many as they were leaves one outcome
as_long : {Answer : Type 0} {R : Answer → List ℕ → Type 0} {count : ℕ} → Single R → Single (λ a x. R a x × (length x ≡ count))
as_long once a b x y p q = once a b x y p.0 q.0

pub restore_at_once : (window : List ℕ) (at : ℕ) → Single (RestoresAt window at)
restore_at_once window at = on_tile_once _ _ _ window window at (λ t bytes. as_long (restore_told_once t.kind t.p t.l bytes t.first t.second))

pub fill_at_once : (a b : Line) (window : List ℕ) (at : ℕ) → Single (FillsAt a b window at)
fill_at_once a b window at = on_tile_once _ _ _ window window at (λ t bytes. as_long (fill_told_once t.kind t.p t.l bytes a b))

pub correct_at_once : (records window : List ℕ) (at : ℕ) → Single (CorrectsAt records window at)
correct_at_once records window at = on_tile_once _ _ _ window window at (λ t bytes. as_long (correct_told_once t.kind t.p t.l bytes records))

pub read_at_once : (window : List ℕ) (at : ℕ) (text : List ℕ) → Single (ReadsAt window at text)
read_at_once window at text = on_tile_once _ _ _ text window at (λ t bytes. read_told_once t.kind t.p t.l bytes text)
