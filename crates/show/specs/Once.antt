-- The contracts settle the answers and the bytes: two walks along one window come to the same. Assumes nothing.
use Rattle.std.specs.Prelude.{Bool, ◌≡◌, refl, List, ◌++◌, ℕ}
use Rattle.std.proofs.Common.{sym, ap, subst, ◌∙◌, arith}
use Rattle.promise.specs.Answer.{Said}
use Rattle.restorer.specs.Once.{restore_told_once}
use Rattle.reel.specs.Answer.{tile}
use Rattle.reel.specs.Calls.{NextTold}
use Rattle.reel.specs.Once.{next_told_once, tile_once}
use Rattle.reel.specs.declared.Tile.{Tile}
use Rattle.picture.specs.declared.Form.{Form}
use Rattle.picture.specs.declared.tally.Tally.{Tally}
use Rattle.window.specs.Window.{LookTold, a_tile}
use Rattle.window.specs.Treat.{tile_bytes, changed, RestoredIn}
use Rattle.window.specs.Once.{look_once}
use Rattle.window.specs.declared.NoTile.{NoTile}
use Rattle.std.specs.Prelude.{Some, None, Err}
use Rattle.show.specs.Show.{shown_of, behind_it, Walks, full, over, goes_on}
use Rattle.show.specs.Status.{StatusIs, well, hurt, stopped}
use Rattle.show.specs.declared.status.Status.{Status}
use Rattle.show.specs.declared.Walk.{Walk}
use Rattle.show.specs.declared.Walked.{Walked}

-- ---- one tile

-- restoring a tile where it stands has one outcome
module _ {window : List ℕ} {t : Tile} {said other : Said} {after later : List ℕ} (x : RestoredIn window t said after) (y : RestoredIn window t other later) where
  both : (said ≡ other) × (x.new ≡ y.new)
  both = restore_told_once t.kind t.p t.l (tile_bytes window t) t.first t.second said other x.new y.new x.told y.told

  pub restored_once : (said ≡ other) × (after ≡ later)
  restored_once = (both.0, x.is ∙ ap (changed window t.at) both.1 ∙ sym y.is)

-- where a walk is over, no tile stands
pub no_tile : {window : List ℕ} {at : ℕ} {last : Bool} {why : NoTile} {t : Tile} → LookTold window at last (Err why) → NextTold window at (tile t) → ⊥
no_tile look told = let e = look_once look (a_tile told) in cc

-- ---- a walk

-- what two walks come to, what they show and what they leave is the same
abbrev Same : Walked → Walked → List ℕ → List ℕ → List ℕ → List ℕ → Type 0
Same r q text words after later = (r ≡ q) × (text ≡ words) × (after ≡ later)

module _ {form : Form} {last : Bool} {offset room : ℕ} where
  same_walks : {window other : List ℕ} {k j : Walk} {r q : Walked} {text words after later : List ℕ} → window ≡ other → k ≡ j
      → Walks form last offset room window k r text after → Walks form last offset room other j q words later → Same r q text words after later
  same_walks e f (full h) (full g) = (λ i. record { walk = f i; ending = None }, refl, e)
  same_walks e f (full h) (over g look) = absurd (omega (arith, h, g, ap (λ (x : Walk). x.used) f))
  same_walks e f (full h) (goes_on g told restored more) = absurd (omega (arith, h, g, ap (λ (x : Walk). x.used) f))
  same_walks e f (over h look) (full g) = absurd (omega (arith, h, g, ap (λ (x : Walk). x.used) f))
  same_walks e f (over {window} {k} {why} h look) (over {window = other} {k = j} {why = why'} g look') =
      let here = subst (λ (x : Walk). LookTold other x.place last (Err why)) f (subst (λ (x : List ℕ). LookTold x k.place last (Err why)) e look) in
      let once = look_once here look' in
      let same : why ≡ why' = cc in
      (λ i. record { walk = f i; ending = Some (same i) }, refl, e)
  same_walks e f (over {window} {k} {why} h look) (goes_on {window = other} {k = j} g told restored more) =
      absurd (no_tile (subst (λ (x : Walk). LookTold other x.place last (Err why)) f (subst (λ (x : List ℕ). LookTold x k.place last (Err why)) e look)) told)
  same_walks e f (goes_on h told restored more) (full g) = absurd (omega (arith, h, g, ap (λ (x : Walk). x.used) f))
  same_walks e f (goes_on {window} {k = k} h told restored more) (over {window = other} {k = j} {why} g look) =
      absurd (no_tile (subst (λ (x : Walk). LookTold window x.place last (Err why)) (sym f) (subst (λ (x : List ℕ). LookTold x j.place last (Err why)) (sym e) look)) told)
  same_walks e f (goes_on {window} {after} {k = k} {t} {said} h told restored more) (goes_on {window = other} {k = j} {t = u} g told' restored' more') =
      let here = subst (λ (x : Walk). NextTold other x.place (tile t)) f (subst (λ (x : List ℕ). NextTold x k.place (tile t)) e told) in
      let same_tile = tile_once (next_told_once other j.place (tile t) (tile u) here told') in
      let there = subst (λ (x : Tile). RestoredIn other x said after) same_tile (subst (λ (x : List ℕ). RestoredIn x t said after) e restored) in
      let once = restored_once there restored' in
      let rest = same_walks once.1 (λ i. behind_it form offset (f i) (same_tile i) (once.0 i)) more more' in
      (rest.0, λ i. shown_of form offset (f i) (same_tile i) (once.0 i) ++ rest.1 i, rest.2)

  pub walks_once : {window : List ℕ} {k : Walk} {r q : Walked} {text words after later : List ℕ} → Walks form last offset room window k r text after
      → Walks form last offset room window k q words later → Same r q text words after later
  walks_once x y = same_walks refl refl x y

-- ---- the status

pub status_once : {mended ended : Bool} {t : Tally} {a b : Status} → StatusIs mended t ended a → StatusIs mended t ended b → a ≡ b
status_once (well x) (well y) = refl
status_once (well x) (hurt y) = absurd (y x)
status_once (hurt x) (well y) = absurd (x y)
status_once (hurt x) (hurt y) = refl
status_once stopped stopped = refl
