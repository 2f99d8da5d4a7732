-- A record reads back as itself, wherever on a reel it stands, and records laid end to end read back in order. Assumes nothing.
use Rattle.std.specs.Prelude.{◌≡◌, refl, List, [], ◌∷◌, ◌++◌, ℕ, ◌+◌, ◌≤◌, ◌<◌, length, take, drop, get_or}
use Rattle.std.proofs.Common.{sym, ap, ◌∙◌, arith, length-append, length-drop, drop-drop, drop_at, take_at, get_or-drop}
use Rattle.std.proofs.Math.ListN.{get_or-append}
use Rattle.std.proofs.Math.Seq.{drop-append_seam}
use Rattle.std.proofs.lemmas.List.{drop-append-le}
use Rattle.code.specs.Tile.{tile_length}
use Rattle.size.specs.Answer as size
use Rattle.header.specs.Header.{byte_of, header_length, HeaderAt}
use Rattle.header.specs.Record.{Fit, RecordOf}
use Rattle.header.specs.Same.{same_header}
use Rattle.header.specs.Laid.{made, made_record}
use Rattle.header.specs.declared.Header.{Header}
use Rattle.reel.specs.Answer.{tile, end, tile_of}
use Rattle.reel.specs.Calls.{NextTold, ends, headed, stands}
use Rattle.reel.specs.Walk.{WalkByPlace}
use Rattle.reel.specs.Walk as walk
use Rattle.reel.specs.Laid.{Printed, Laid, ReadBack}
use Rattle.reel.specs.Laid as put
use Rattle.reel.specs.declared.Tile.{Tile}

-- ---- a record, wherever it stands

-- how long it is
long : {h : Header} {tile bytes : List ℕ} → Fit h tile → RecordOf h tile bytes → length bytes ≡ header_length h.mark + tile_length h.p
long {h} {tile} {bytes} fit of = omega (arith, ap length of.behind, length-drop (header_length h.mark) bytes, of.header.whole, fit.long)

module _ (reel bytes behind : List ℕ) (h : Header) (tile_bytes_lem : List ℕ) (at : ℕ) (within : at ≤ length reel) (here : drop at reel ≡ bytes ++ behind)
    (fit : Fit h tile_bytes_lem) (of : RecordOf h tile_bytes_lem bytes) where
  -- the record lies within the reel
  still_within : at + header_length h.mark + tile_length h.p ≤ length reel
  still_within = omega (arith, ap length here, length-drop at reel, length-append bytes behind, long fit of)

  -- its header stands there ..
  header_here : HeaderAt reel at h
  header_here = same_header reel bytes at 0 same (omega (arith, still_within)) of.header
    where
      same : (n : ℕ) → n < header_length h.mark → byte_of reel at n ≡ byte_of bytes 0 n
      same n below =
          sym (get_or-drop at reel n 0) ∙ ap (λ (x : List ℕ). get_or x n 0) here ∙ get_or-append bytes behind 0 n (omega (arith, of.header.whole))
          ∙ ap (λ (k : ℕ). get_or bytes k 0) (omega arith)

  -- .. so it is answered as that tile ..
  pub reads_back : NextTold reel at (tile (tile_of h at))
  reads_back = headed header_here (stands (size.taken fit.size fit.slope) fit.flags still_within)

  -- .. whose bytes stand where the answer says ..
  pub bytes_back : take (tile_length h.p) (drop (at + header_length h.mark) reel) ≡ tile_bytes_lem
  bytes_back =
      ap (take (tile_length h.p))
      (sym (drop-drop (header_length h.mark) at reel) ∙ ap (drop (header_length h.mark)) here
      ∙ drop-append-le (header_length h.mark) bytes behind (omega (arith, of.header.whole)) ∙ ap (λ (x : List ℕ). x ++ behind) of.behind)
      ∙ take_at tile_bytes_lem behind (tile_length h.p) fit.long

  -- .. and behind them what follows
  behind_it_lem : drop (at + header_length h.mark + tile_length h.p) reel ≡ behind
  behind_it_lem =
      let sum : at + header_length h.mark + tile_length h.p ≡ at + (header_length h.mark + tile_length h.p) = omega arith in
      ap (λ (n : ℕ). drop n reel) sum ∙ sym (drop-drop (header_length h.mark + tile_length h.p) at reel)
      ∙ ap (drop (header_length h.mark + tile_length h.p)) here ∙ drop_at bytes behind (header_length h.mark + tile_length h.p) (long fit of)

-- so a record reads back as itself, whatever stands before it and behind it
pub record_back : (h : Header) (tile_bytes_lem bytes : List ℕ) → Fit h tile_bytes_lem → RecordOf h tile_bytes_lem bytes → (before behind : List ℕ)
    → NextTold (before ++ (bytes ++ behind)) (length before) (tile (tile_of h (length before)))
    × (take (tile_length h.p) (drop (length before + header_length h.mark) (before ++ (bytes ++ behind))) ≡ tile_bytes_lem)
record_back h tile_bytes_lem bytes fit of before behind =
    let reel = before ++ (bytes ++ behind) in
    let within : length before ≤ length reel = omega (arith, length-append before (bytes ++ behind)) in
    let here = drop-append_seam before (bytes ++ behind) in
    (reads_back reel bytes behind h tile_bytes_lem (length before) within here fit of, bytes_back reel bytes behind h tile_bytes_lem (length before) within here fit of)

-- and so does one that is put together
pub made_back : (h : Header) (tile_bytes_lem : List ℕ) → Fit h tile_bytes_lem → (before behind : List ℕ)
    → NextTold (before ++ (made h tile_bytes_lem ++ behind)) (length before) (tile (tile_of h (length before)))
    × (take (tile_length h.p) (drop (length before + header_length h.mark) (before ++ (made h tile_bytes_lem ++ behind))) ≡ tile_bytes_lem)
made_back h tile_bytes_lem fit = record_back h tile_bytes_lem (made h tile_bytes_lem) fit (made_record h tile_bytes_lem fit)

-- ---- records laid end to end

-- what a walk from a place lists where from there on records are laid
abbrev BackFrom : List ℕ → ℕ → List Printed → Type 0
BackFrom reel at ts = (listed : List Tile) × WalkByPlace reel at listed end × ReadBack reel listed ts

back_from : (reel : List ℕ) (ts : List Printed) (left : List ℕ) → Laid ts left → (at : ℕ) → at ≤ length reel → drop at reel ≡ left → BackFrom reel at ts
back_from reel ts left put.Laid.none at h e = ([], walk.WalkByPlace.stops {at = at} (ends (omega (arith, ap length e, length-drop at reel))) tt, put.ReadBack.none)
back_from reel ts left (put.Laid.more {t} {bytes} {ts = others} {reel = behind} fit of rest) at h e =
    let told = reads_back reel bytes behind t.header t.tile at h e fit of in
    let to = at + header_length t.header.mark + tile_length t.header.p in
    let others_back = back_from reel others behind rest to (still_within reel bytes behind t.header t.tile at h e fit of) (behind_it_lem reel bytes behind t.header t.tile at h e fit of) in (
      tile_of t.header at ∷ others_back.0,
      walk.WalkByPlace.goes_on told (record { said = tile (tile_of t.header at); told = told; is = refl }) others_back.1,
      put.ReadBack.more at (bytes_back reel bytes behind t.header t.tile at h e fit of) others_back.2,
    )

pub laid_back : (ts : List Printed) (reel : List ℕ) → Laid ts reel → (listed : List Tile) × WalkByPlace reel 0 listed end × ReadBack reel listed ts
laid_back ts reel laid = back_from reel ts reel laid 0 (omega arith) refl
