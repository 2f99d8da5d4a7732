-- THE LAW OF THE WINDOW (SPEC 12.9): what a window settles is so on the reel; and a window that has room for the largest record settles
-- what stands at its first byte. Assumes nothing.
use Rattle.std.specs.Prelude.{◌≡◌, refl, Result, Ok, Err, Bool, true, List, ℕ, ◌+◌, ◌-◌, ◌≤◌, ◌<◌, length, drop, get_or}
use Rattle.std.proofs.Common.{sym, ap, subst, ◌∙◌, mul-le-mul, arith, length-drop, ext_get_or, get_or-take, get_or-drop, length-take-le}
use Rattle.code.specs.Tile.{tile_length}
use Rattle.code.specs.declared.Kind.{Kind}
use Rattle.size.specs.Answer as size
use Rattle.size.specs.Told.{judged_well}
use Rattle.size.specs.Refusal.{number_of}
use Rattle.header.specs.Header.{byte_of, Marked, header_length, HeaderAt}
use Rattle.header.specs.Same.{same_marked, same_header}
use Rattle.header.specs.Laid.{counted}
use Rattle.header.specs.declared.Mark.{Mark}
use Rattle.header.specs.declared.Header.{Header}
use Rattle.reel.specs.Answer.{Said, tile, end, refused, tile_of}
use Rattle.reel.specs.Calls.{HeaderTold, refuses, no_line, tile_cut, stands, NextTold, ends, start_cut, no_mark, header_cut, headed}
use Rattle.reel.specs.Walk.{further, shifted}
use Rattle.reel.specs.Told.{tile_within, tile_behind}
use Rattle.reel.specs.declared.Tile.{Tile}
use Rattle.window.specs.Window.{Shows, LookTold, a_tile, the_end, last_stop, stop, more_behind, more_of_it}
use Rattle.window.specs.Treat.{tile_bytes}
use Rattle.window.specs.declared.NoTile.{NoTile}
use Rattle.window.specs.declared.NoTile.TheVariants as no_tile

-- what is settled by any window: a tile, and each refusal but 7
abbrev pub Settled : Said → Type 0
Settled (tile t) = Unit {0}
Settled end = ⊥
Settled (refused n from) = n ≡ 7 → ⊥

module _ {reel : List ℕ} {offset : ℕ} {window : List ℕ} {at : ℕ} (shows : Shows reel offset window at) where
  -- the bytes of a record that lie in the window are the reel's
  byte : (n : ℕ) → at + n < length window → byte_of window at n ≡ byte_of reel (offset + at) n
  byte n h = shows.same (at + n) (omega arith) h ∙ ap (λ (k : ℕ). get_or reel k 0) (omega arith)

  marked_there : at + 10 ≤ length window → (m : Mark) → Marked m window at → Marked m reel (offset + at)
  marked_there h = same_marked reel window (offset + at) at (λ n lt. sym (byte n (omega arith)))

  marked_here : at + 10 ≤ length window → (m : Mark) → Marked m reel (offset + at) → Marked m window at
  marked_here h = same_marked window reel at (offset + at) (λ n lt. byte n (omega arith))

  header_there : {g : Header} → HeaderAt window at g → HeaderAt reel (offset + at) g
  header_there {g} there =
      same_header reel window (offset + at) at (λ n lt. sym (byte n (omega (arith, there.whole)))) (omega (arith, there.whole, shows.within)) there

  -- the tile of a header, with its offset on the reel
  tile_there : (g : Header) → NextTold reel (offset + at) (tile (tile_of g (offset + at))) → NextTold reel (offset + at) (tile (further offset (tile_of g at)))
  tile_there g =
      let e : offset + at + header_length g.mark ≡ offset + (at + header_length g.mark) = omega arith in
      subst (λ (k : ℕ). NextTold reel (offset + at) (tile (record { kind = (tile_of g at).kind; number = g.number; p = g.p; l = g.l; first = g.first; second = g.second; at = k }))) e

  headed_there : {g : Header} {said : Said} → HeaderAt window at g → HeaderTold window at g said → Settled said → NextTold reel (offset + at) (shifted offset said)
  headed_there there (refuses j) s = headed (header_there there) (refuses j)
  headed_there there (no_line j f) s = headed (header_there there) (no_line j f)
  headed_there there (tile_cut j c f) s = absurd (s refl)
  headed_there {g} there (stands j c w) s = tile_there g (headed (header_there there) (stands j c (omega (arith, w, shows.within))))

  -- WHAT ANY WINDOW SETTLES IS SO ON THE REEL
  pub settled_there : {said : Said} → NextTold window at said → Settled said → NextTold reel (offset + at) (shifted offset said)
  settled_there (ends e) s = absurd s
  settled_there (start_cut e f) s = absurd (s refl)
  settled_there (no_mark w f) s = no_mark (omega (arith, w, shows.within)) (λ m there. f m (marked_here w m there))
  settled_there (header_cut m w there f) s = absurd (s refl)
  settled_there (headed there told) s = headed_there there told s

  -- the last window settles all
  module _ (last : offset + length window ≡ length reel) where
    headed_last : {g : Header} {said : Said} → HeaderAt window at g → HeaderTold window at g said → NextTold reel (offset + at) (shifted offset said)
    headed_last there (refuses j) = headed (header_there there) (refuses j)
    headed_last there (no_line j f) = headed (header_there there) (no_line j f)
    headed_last there (tile_cut j c f) = headed (header_there there) (tile_cut j c (λ w. f (omega (arith, w, last))))
    headed_last {g} there (stands j c w) = tile_there g (headed (header_there there) (stands j c (omega (arith, w, last))))

    -- WHAT STANDS AT A PLACE OF THE LAST WINDOW STANDS THERE ON THE REEL
    pub last_there : {said : Said} → NextTold window at said → NextTold reel (offset + at) (shifted offset said)
    last_there (ends e) = ends (omega (arith, e, last))
    last_there (start_cut e f) = start_cut (omega (arith, e, last)) (λ w. f (omega (arith, w, last)))
    last_there (no_mark w f) = no_mark (omega (arith, w, last)) (λ m there. f m (marked_here w m there))
    last_there (header_cut m w there f) = header_cut m (omega (arith, w, last)) (marked_there w m there) (λ v. f (omega (arith, v, last)))
    last_there (headed there told) = headed_last there told

  -- the tile's bytes are those on the reel
  bytes_here : {t : Tile} → NextTold window at (tile t) → length (tile_bytes window t) ≡ tile_length t.p
  bytes_here {t} told = length-take-le (tile_length t.p) (drop t.at window) (omega (arith, tile_within told, length-drop t.at window))

  bytes_on_reel : {t : Tile} → NextTold window at (tile t) → length (tile_bytes reel (further offset t)) ≡ tile_length t.p
  bytes_on_reel {t} told =
      length-take-le (tile_length t.p) (drop (offset + t.at) reel) (omega (arith, tile_within told, shows.within, length-drop (offset + t.at) reel))

  same_byte : {t : Tile} → NextTold window at (tile t) → (n : ℕ) → n < tile_length t.p → get_or (tile_bytes window t) n 0 ≡ get_or (tile_bytes reel (further offset t)) n 0
  same_byte {t} told n lt =
      get_or-take (tile_length t.p) (drop t.at window) n 0 lt
      ∙ get_or-drop t.at window n 0
      ∙ shows.same (t.at + n) (omega (arith, tile_behind told)) (omega (arith, tile_within told))
      ∙ ap (λ (k : ℕ). get_or reel k 0) (omega arith)
      ∙ sym (get_or-drop (offset + t.at) reel n 0)
      ∙ sym (get_or-take (tile_length t.p) (drop (offset + t.at) reel) n 0 lt)

  pub bytes_there : {t : Tile} → NextTold window at (tile t) → tile_bytes window t ≡ tile_bytes reel (further offset t)
  bytes_there {t} told =
      ext_get_or 0 (tile_bytes window t) (tile_bytes reel (further offset t)) (bytes_here told ∙ sym (bytes_on_reel told))
      (λ n lt. same_byte told n (omega (arith, lt, bytes_here told)))

-- ---- a window with room for the largest record

-- no record is longer than 65,550 bytes
no_seven : {k : Kind} {p l n : ℕ} → size.Judged k p l (size.refused n) → n ≡ 7 → ⊥
no_seven (size.no_size f) e = omega (arith, e)
no_seven (size.no_slope s f) e = omega (arith, e)

record_settles : {window : List ℕ} {at : ℕ} {g : Header} {said : Said} → at + 65550 ≤ length window → HeaderTold window at g said → Settled said
record_settles h (refuses j) = no_seven j
record_settles h (no_line j f) = λ e. omega (arith, e)
record_settles {window} {at} {g} h (tile_cut j c f) =
    let side : g.p - 1 ≤ 256 = omega (arith, (judged_well j).0.high) in λ e. f (omega (arith, counted g.mark, mul-le-mul side side))
record_settles h (stands j c w) = tt

-- A WINDOW WITH ROOM FOR THE LARGEST RECORD SETTLES WHAT STANDS AT ITS PLACE
pub large_settles : {window : List ℕ} {at : ℕ} {said : Said} → at + 65550 ≤ length window → NextTold window at said → Settled said
large_settles h (ends e) = omega (arith, e)
large_settles h (start_cut e f) = λ seven. f (omega arith)
large_settles h (no_mark w f) = λ six. omega (arith, six)
large_settles h (header_cut m w there f) = λ seven. f (omega (arith, counted m))
large_settles h (headed there told) = record_settles h told

-- ---- what is looked at

-- what a step says of the reel, at the place where the window's place is on it
abbrev pub There : List ℕ → ℕ → ℕ → Result Tile NoTile → Type 0
There reel place offset (Ok t) = NextTold reel place (tile (further offset t))
There reel place offset (Err no_tile.End) = NextTold reel place end
There reel place offset (Err (no_tile.Stopped r from)) = NextTold reel place (refused (number_of r) (offset + from))
There reel place offset (Err no_tile.More) = Unit {0}

-- the last window ends where the reel does
abbrev pub LastIs : Bool → List ℕ → ℕ → List ℕ → Type 0
LastIs last reel offset window = last ≡ true → offset + length window ≡ length reel

-- WHATEVER A LOOK AT A WINDOW SAYS IS SO ON THE REEL, unless it asks for more
pub looked_there : {reel : List ℕ} {offset : ℕ} {window : List ℕ} {at : ℕ} {is_last : Bool} {s : Result Tile NoTile} → Shows reel offset window at → LastIs is_last reel offset window
    → LookTold window at is_last s → There reel (offset + at) offset s
looked_there shows last (a_tile told) = settled_there shows told tt
looked_there shows last (the_end told) = last_there shows (last refl) told
looked_there shows last (last_stop told) = last_there shows (last refl) told
looked_there shows last (stop told not_seven) = settled_there shows told not_seven
looked_there shows last (more_behind told) = tt
looked_there shows last (more_of_it told) = tt

-- and with room for the largest record it never does
pub large_looked : {window : List ℕ} {at : ℕ} {is_last : Bool} → at + 65550 ≤ length window → LookTold window at is_last (Err no_tile.More) → ⊥
large_looked h (more_behind told) = large_settles h told
large_looked h (more_of_it told) = large_settles h told refl
