-- How far a walk along a window has come. Assumes nothing.
use Rattle.std.specs.Prelude.{Option, Bool, ◌≡◌, List, [], ◌++◌, ℕ, ◌+◌, ◌≤◌, length}
use Rattle.std.proofs.Common.{sym, subst, append_assoc, append-nil, arith}
use Rattle.code.specs.Tile.{tile_length}
use Rattle.promise.specs.Answer.{Said}
use Rattle.reel.specs.Answer.{tile}
use Rattle.reel.specs.Calls.{NextTold}
use Rattle.reel.specs.Walks.{moves_on}
use Rattle.reel.specs.declared.Tile.{Tile}
use Rattle.page.specs.Page.{Puts}
use Rattle.page.specs.Then.{puts_nothing, ◌then◌}
use Rattle.picture.specs.Laws.{below_counted}
use Rattle.picture.specs.Tally.{counted, Below, most_squares}
use Rattle.picture.specs.declared.Form.{Form}
use Rattle.picture.specs.declared.tally.Tally.{Tally}
use Rattle.window.specs.Treat.{RestoredIn}
use Rattle.show.specs.Count.{below_more}
use Rattle.show.specs.Show.{Near, shown_of, Walks, goes_on, PastTold, AlongTold}
use Rattle.window.specs.declared.NoTile.{NoTile}
use Rattle.show.specs.declared.Walk.{Walk}
use Rattle.show.specs.declared.Walked.{Walked}

-- a walk that began with one window, one place and an empty page has come to another
pub record Going (form : Form) (last : Bool) (offset : ℕ) (window₀ : List ℕ) (k₀ : Walk) (page₀ window : List ℕ) (k : Walk) (page : List ℕ) : Type 0 where
  pub text : List ℕ
  pub shown : Puts page₀ 0 text k.used page
  pub few : Below (100000000000000000 + k.place) k.tally
  pub so_far : (r : Walked) (more after : List ℕ) → Walks form last offset (length page₀) window k r more after
      → Walks form last offset (length page₀) window₀ k₀ r (text ++ more) after

abbrev pub from_place : ℕ → Tally → Walk
from_place from tally = record { place = from; tally = tally; used = 0 }

pub going_first : (form : Form) (last : Bool) (offset : ℕ) (window : List ℕ) (from : ℕ) (tally : Tally) (page : List ℕ) → Near offset tally
    → Going form last offset window (from_place from tally) page window (from_place from tally) page
going_first form last offset window from tally page near = record {
  text = [];
  shown = puts_nothing page 0;
  few = below_more (omega arith) near.few;
  so_far = λ r more after w. w;
}

module _ {form : Form} {last : Bool} {offset : ℕ} {window₀ : List ℕ} {k₀ : Walk} {page₀ window : List ℕ} {k : Walk} {page : List ℕ}
    (going : Going form last offset window₀ k₀ page₀ window k page) where
  -- as many tiles as places can be counted
  pub going_few : {t : Tile} → NextTold window k.place (tile t) → length window ≤ 9223372036854775807 → Below most_squares k.tally
  going_few told h = below_more (omega (arith, moves_on told)) going.few

  pub going_on : {t : Tile} {r : Walk} {after page' : List ℕ} → k.used + 512 ≤ length page → NextTold window k.place (tile t)
      → PastTold form offset window k t page r after page' → Going form last offset window₀ k₀ page₀ after r page'
  going_on {t} {r} {after} {page'} room told p = record {
    text = going.text ++ shown_of form offset k t p.said;
    shown = going.shown then p.shown;
    few = subst (λ (x : Walk). Below (100000000000000000 + x.place) x.tally) (sym p.is)
        (below_more (omega (arith, moves_on told)) (below_counted {n = 100000000000000000 + k.place} p.said going.few));
    so_far = λ q more final w.
        rw (append_assoc going.text (shown_of form offset k t p.said) more)
        (going.so_far q (shown_of form offset k t p.said ++ more) final
        (goes_on (omega (arith, room, going.shown.same)) told p.restored (subst (λ (x : Walk). Walks form last offset (length page₀) after x q more final) p.is w)));
  }

-- a tile was restored, shown and counted
pub past_told : {form : Form} {offset : ℕ} {window : List ℕ} {k : Walk} {t : Tile} {page after page' : List ℕ} (place used : ℕ) (tally : Tally) {said : Said}
    → RestoredIn window t said after → Puts page k.used (shown_of form offset k t said) used page' → used ≤ k.used + 512
    → place ≡ t.at + tile_length t.p → tally ≡ counted k.tally said
    → PastTold form offset window k t page (record { place = place; tally = tally; used = used }) after page'
past_told place used tally {said} restored shown fits there count = record {
  said = said;
  restored = restored;
  is = λ i. record { place = there i; tally = count i; used = shown.long i };
  shown = shown;
  fits = fits;
}

-- a walk is over: what it came to is what was promised
pub along_told : {form : Form} {last : Bool} {offset : ℕ} {window₀ : List ℕ} {from : ℕ} {tally : Tally} {page₀ window : List ℕ} {k : Walk} {page : List ℕ} {e : Option NoTile}
    → Going form last offset window₀ (from_place from tally) page₀ window k page
    → Walks form last offset (length page₀) window k (record { walk = k; ending = e }) [] window
    → AlongTold form last offset window₀ from tally page₀ (record { walk = k; ending = e }) window page
along_told {window = window} {k = k} {e = e} going w =
    record { text = going.text; walks = rw (append-nil going.text) at (going.so_far (record { walk = k; ending = e }) [] window w); shown = going.shown }
