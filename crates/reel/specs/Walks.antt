-- A walk always ends, and lists one thing; a walk by the rest lists the same tiles with the same offsets. Assumes nothing.
use Rattle.std.specs.Prelude.{◌≡◌, refl, List, [], ◌∷◌, ℕ, zero, suc, ◌+◌, ◌-◌, ◌≤◌, ◌<◌, length, take, drop}
use Rattle.std.proofs.Common.{sym, ap, ◌∙◌, subst, mul-le-mul, arith, length-drop, drop-drop}
use Rattle.std.specs.Borrow.{Bor}
use Rattle.code.specs.Tile.{tile_length}
use Rattle.reel.specs.Answer.{Said, tile, end, refused, NoTile}
use Rattle.reel.specs.Calls.{NextTold, AfterTold, RestTold}
use Rattle.reel.specs.Told.{tile_taken, tile_within, tile_behind, rest_drops}
use Rattle.reel.specs.Once.{next_told_once, tile_once, after_once, after_tile}
use Rattle.reel.specs.Walk as walk
use Rattle.reel.specs.Walk.{WalkByPlace, WalkByRest, further, shifted}
use Rattle.reel.specs.declared.Tile.{Tile}
use Rattle.reel.specs.Total.{next_total}
use Rattle.reel.specs.Part.{part_told}

-- ---- a walk ends

-- a tile moves the place on, by 26 bytes or more, and never past the end
pub moves_on : {reel : List ℕ} {at : ℕ} {t : Tile} → NextTold reel at (tile t) → (at + 26 ≤ t.at + tile_length t.p) × (t.at + tile_length t.p ≤ length reel)
moves_on {reel} {at} {t} told =
    let size = (tile_taken told).0 in
    let side : 4 ≤ t.p - 1 = omega (arith, size.low) in
    (omega (arith, tile_behind told, mul-le-mul side side), tile_within told)

-- the walk from a place
abbrev pub Walked : List ℕ → ℕ → Type 0
Walked reel at = (tiles : List Tile) × (last : Said) × WalkByPlace reel at tiles last

-- where each walk from a later place ends, that from this place does
one_step : (reel : List ℕ) (at : ℕ) → ((to : ℕ) → at + 26 ≤ to → to ≤ length reel → Walked reel to) → (said : Said) → NextTold reel at said → Walked reel at
one_step reel at later end told = ([], end, walk.WalkByPlace.stops told tt)
one_step reel at later (refused n from) told = ([], refused n from, walk.WalkByPlace.stops told tt)
one_step reel at later (tile t) told =
    let on = moves_on told in
    let rest = later (t.at + tile_length t.p) on.0 on.1 in
    (t ∷ rest.0, rest.1, walk.WalkByPlace.goes_on told (record { said = tile t; told = told; is = refl }) rest.2)

within : (fuel : ℕ) (reel : List ℕ) (at : ℕ) → length reel ≤ at + fuel → Walked reel at
within zero reel at h = one_step reel at (λ to a b. absurd (omega arith)) (next_total reel at).0 (next_total reel at).1
within (suc fuel) reel at h = one_step reel at (λ to a b. within fuel reel to (omega arith)) (next_total reel at).0 (next_total reel at).1

pub walk_ends : (reel : List ℕ) (at : ℕ) → Walked reel at
walk_ends reel at = within (length reel) reel at (omega arith)

-- ---- and lists one thing

same_answer : {reel : List ℕ} {at at' : ℕ} {a b : Said} → at ≡ at' → NextTold reel at a → NextTold reel at' b → a ≡ b
same_answer {reel} {at} {at'} {a} {b} e x y = next_told_once reel at' a b (subst (λ (n : ℕ). NextTold reel n a) e x) y

no_tile_there : {said : Said} {t : Tile} → said ≡ tile t → NoTile said → ⊥
no_tile_there e n = subst NoTile e n

same_walk : {reel : List ℕ} {at at' : ℕ} {s t : List Tile} {a b : Said} → at ≡ at' → WalkByPlace reel at s a → WalkByPlace reel at' t b → (s ≡ t) × (a ≡ b)
same_walk e (walk.WalkByPlace.stops x n) (walk.WalkByPlace.stops y m) = (refl, same_answer e x y)
same_walk e (walk.WalkByPlace.stops x n) (walk.WalkByPlace.goes_on y to more) = absurd (no_tile_there (same_answer e x y) n)
same_walk e (walk.WalkByPlace.goes_on x to more) (walk.WalkByPlace.stops y m) = absurd (no_tile_there (sym (same_answer e x y)) m)
same_walk {reel} {at} {at'} e (walk.WalkByPlace.goes_on {to = u} x to more) (walk.WalkByPlace.goes_on {to = v} y to' more') =
    let rest = same_walk (after_once reel at' u v (subst (λ (n : ℕ). AfterTold reel n u) e to) to') more more' in
    (λ i. tile_once (same_answer e x y) i ∷ rest.0 i, rest.1)

pub walk_once : {reel : List ℕ} {at : ℕ} {s t : List Tile} {a b : Said} → WalkByPlace reel at s a → WalkByPlace reel at t b → (s ≡ t) × (a ≡ b)
walk_once x y = same_walk refl x y

-- ---- a walk by the rest

-- the rest behind a tile is shorter by the record ..
pub rest_shorter : {left rest : Bor (List ℕ)} {t : Tile} → NextTold left.now 0 (tile t) → RestTold left 0 rest
    → length rest.now + (t.at + tile_length t.p) ≡ length left.now
rest_shorter {left} {rest} told r =
    omega (arith, ap length (rest_drops left rest 0 r), length-drop r.from left.now, (moves_on told).1, after_tile told r.told)

-- .. and is the reel from behind it on
pub rest_on : {left rest : Bor (List ℕ)} {t : Tile} (reel : List ℕ) (at : ℕ) → left.now ≡ drop at reel
    → NextTold left.now 0 (tile t) → RestTold left 0 rest → rest.now ≡ drop (at + t.at + tile_length t.p) reel
rest_on {left} {rest} {t} reel at e told r =
    let sum : at + r.from ≡ at + t.at + tile_length t.p = omega (arith, after_tile told r.told) in
    rest_drops left rest 0 r ∙ ap (drop r.from) e ∙ drop-drop r.from at reel ∙ ap (λ (n : ℕ). drop n reel) sum

-- how many bytes stand before what is left
before_left : (reel left : List ℕ) (at : ℕ) → at ≤ length reel → left ≡ drop at reel → length reel - length left ≡ at
before_left reel left at h e = omega (arith, ap length e, length-drop at reel)

shifted_none : (by : ℕ) (said : Said) → NoTile said → NoTile (shifted by said)
shifted_none by (tile _) n = elim n [ ]
shifted_none by end n = n
shifted_none by (refused k from) n = n

-- a walk by the rest is a walk by place
pub by_place : {reel : List ℕ} {tiles : List Tile} {last : Said} (at : ℕ) (left : Bor (List ℕ)) → at ≤ length reel → left.now ≡ drop at reel
    → WalkByRest (length reel) left tiles last → WalkByPlace reel at tiles last
by_place {reel} at left h e (walk.WalkByRest.stops {last = said} told n) =
    subst (λ (n : ℕ). WalkByPlace reel at [] (shifted n said)) (sym (before_left reel left.now at h e))
    (walk.WalkByPlace.stops (part_told reel at h (subst (λ (x : List ℕ). NextTold x 0 said) e told)) (shifted_none at said n))
by_place {reel} {last = last} at left h e (walk.WalkByRest.goes_on {rest = rest} {t} {more} told r walked) =
    let here : NextTold reel at (tile (further at t)) = part_told reel at h (subst (λ (x : List ℕ). NextTold x 0 (tile t)) e told) in
    subst (λ (n : ℕ). WalkByPlace reel at (further n t ∷ more) last) (sym (before_left reel left.now at h e))
    (walk.WalkByPlace.goes_on here (record { said = tile (further at t); told = here; is = refl })
    (by_place (at + t.at + tile_length t.p) rest (tile_within here) (rest_on reel at e told r) walked))

-- and it ends too
abbrev pub WalkedRest : ℕ → Bor (List ℕ) → Type 0
WalkedRest total left = (tiles : List Tile) × (last : Said) × WalkByRest total left tiles last

-- the part of a reel from a place on, as a slice
onward : Bor (List ℕ) → ℕ → Bor (List ℕ)
onward left from = record { ref_ptr = (left.ref_ptr.0, from + left.ref_ptr.1); now = take (length left.now - from) (drop from left.now) }

one_rest : (total : ℕ) (left : Bor (List ℕ)) → ((rest : Bor (List ℕ)) → length rest.now < length left.now → WalkedRest total rest)
    → (said : Said) → NextTold left.now 0 said → WalkedRest total left
unfolding onward
one_rest total left shorter end told = ([], end, walk.WalkByRest.stops told tt)
one_rest total left shorter (refused n from) told =
    ([], refused n (total - length left.now + from), walk.WalkByRest.stops told tt)
one_rest total left shorter (tile t) told =
    let to = t.at + tile_length t.p in
    let r : RestTold left 0 (onward left to) = record {
      from = to;
      told = record { said = tile t; told = told; is = refl };
      is = record { holds = refl; own = λ some. refl };
    } in
    let rest = shorter (onward left to) (omega (arith, (moves_on told).0, rest_shorter told r)) in
    (further (total - length left.now) t ∷ rest.0, rest.1, walk.WalkByRest.goes_on {more = rest.0} {last = rest.1} told r rest.2)

within_rest : (fuel total : ℕ) (left : Bor (List ℕ)) → length left.now ≤ fuel → WalkedRest total left
within_rest zero total left h = one_rest total left (λ rest lt. absurd (omega arith)) (next_total left.now 0).0 (next_total left.now 0).1
within_rest (suc fuel) total left h = one_rest total left (λ rest lt. within_rest fuel total rest (omega arith)) (next_total left.now 0).0 (next_total left.now 0).1

pub walk_rest_ends : (reel : Bor (List ℕ)) → WalkedRest (length reel.now) reel
walk_rest_ends reel = within_rest (length reel.now) (length reel.now) reel (omega arith)

-- so the two list the same tiles, with the same offsets, and end with the same answer
pub walks_agree : {reel : Bor (List ℕ)} {s t : List Tile} {a b : Said} → WalkByRest (length reel.now) reel s a → WalkByPlace reel.now 0 t b
    → (s ≡ t) × (a ≡ b)
walks_agree {reel} x y = walk_once (by_place 0 reel (omega arith) refl x) y
