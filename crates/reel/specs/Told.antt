-- What an answer tells of the reel that was asked about. Assumes nothing.
use Rattle.std.specs.Prelude.{◌≡◌, refl, List, [], ℕ, ◌+◌, ◌-◌, ◌≤◌, length, drop}
use Rattle.std.proofs.Common.{ap, ◌∙◌, arith, length-drop, take_all}
use Rattle.std.specs.Borrow.{Bor}
use Rattle.residue.specs.Size.{Size}
use Rattle.code.specs.Kind.{Takes}
use Rattle.code.specs.Tile.{tile_length}
use Rattle.flag.specs.Flag.{flag_number, Short}
use Rattle.code.specs.declared.Kind.{Kind}
use Rattle.size.specs.Answer as size
use Rattle.size.specs.Told.{judged_well}
use Rattle.code.specs.declared.Kind.TheVariants.{New}
use Rattle.code.specs.declared.Line.{Line}
use Rattle.promise.specs.Calls.{Has}
use Rattle.record.specs.Number.{big_endian}
use Rattle.flag.specs.Back.{number_back}
use Rattle.header.specs.Header.{byte_of, Marked, kind_of, header_length, flag_at, LineCarried, Carries}
use Rattle.header.specs.Mark.{one_mark}
use Rattle.header.specs.declared.Mark.{Mark}
use Rattle.header.specs.declared.Mark.TheVariants.{Plain, Flagged, Old}
use Rattle.header.specs.Laid.{counted, carried_short}
use Rattle.header.specs.declared.Header.{Header}
use Rattle.reel.specs.Answer.{Said, tile, end, refused, NoTile}
use Rattle.reel.specs.Calls.{HeaderJudged, TileWhole, HeaderTold, refuses, no_line, tile_cut, stands, NextTold, start_cut, no_mark, header_cut, headed, after_said, HandsBack, RestTold}
use Rattle.reel.specs.declared.Tile.{Tile}

-- a tile stands there, told with its kind and the offset of its bytes as they were worked out
pub stands_told : (reel : List ℕ) (at : ℕ) (h : Header) (k : Kind) (from : ℕ) → k ≡ kind_of h.mark → from ≡ at + header_length h.mark
    → HeaderJudged h size.well → Carries h → TileWhole reel at h
    → HeaderTold reel at h (tile (record { kind = k; number = h.number; p = h.p; l = h.l; first = h.first; second = h.second; at = from }))
stands_told reel at h k from e f j c w = rw (e, f) (stands j c w)

-- a tile's size is one, and its slope is one that its kind takes there; its bytes lie within the reel, behind the place by a header
pub tile_taken : {reel : List ℕ} {at : ℕ} {t : Tile} → NextTold reel at (tile t) → Size t.p × Takes t.kind t.p t.l
tile_taken (headed there (stands j c w)) = judged_well j

pub tile_within : {reel : List ℕ} {at : ℕ} {t : Tile} → NextTold reel at (tile t) → t.at + tile_length t.p ≤ length reel
tile_within (headed there (stands j c w)) = w

pub tile_behind : {reel : List ℕ} {at : ℕ} {t : Tile} → NextTold reel at (tile t) → at + 10 ≤ t.at
tile_behind (headed {h} there (stands j c w)) = omega (arith, (counted h.mark).0)

-- its flags have numbers of two bytes
pub tile_flags : {reel : List ℕ} {at : ℕ} {t : Tile} → NextTold reel at (tile t) → Short t.first × Short t.second
tile_flags (headed {h} there (stands j c w)) =
    let high = (judged_well j).0.high in (carried_short h.mark h.p h.first high c.0, carried_short h.mark h.p h.second high c.1)

-- THE FLAGS ARE TOLD AS THEY STAND: the numbers of the two flags of a flagged record are those in its bytes
pub flags_stand : {reel : List ℕ} {at : ℕ} {t : Tile} → NextTold reel at (tile t) → Marked Flagged reel at
    → (flag_number t.first ≡ big_endian (byte_of reel at 10) (byte_of reel at 11)) × (flag_number t.second ≡ big_endian (byte_of reel at 12) (byte_of reel at 13))
flags_stand {reel} {at} (headed {h} there (stands j c w)) m =
    let flagged = one_mark reel at h.mark Flagged there.marked m in
    let as_flagged : (n : ℕ) → flag_at h.mark reel at n ≡ flag_at Flagged reel at n = λ n. ap (λ (k : Mark). flag_at k reel at n) flagged in (
      ap flag_number (there.first ∙ as_flagged 10) ∙ number_back (big_endian (byte_of reel at 10) (byte_of reel at 11)),
      ap flag_number (there.second ∙ as_flagged 12) ∙ number_back (big_endian (byte_of reel at 12) (byte_of reel at 13)),
    )

-- a record that carries a line's flag is that of a new tile, which has the line
pub carried_line : (m : Mark) (p : ℕ) (a : Line) → LineCarried m p a → (kind_of m ≡ New) × Has p a
carried_line Flagged p a c = (refl, c)
carried_line Rattle.header.specs.declared.Mark.TheVariants.Plain p a c = elim c [ ]
carried_line Rattle.header.specs.declared.Mark.TheVariants.Old p a c = elim c [ ]

-- where no tile stands, the place behind it is the place itself, and no bytes are handed back
pub after_stays : (at : ℕ) (said : Said) → NoTile said → at ≡ after_said at said
after_stays at (tile _) n = elim n [ ]
after_stays at end n = refl
after_stays at (refused k from) n = refl

pub hands_none : (reel bytes : Bor (List ℕ)) (said : Said) → NoTile said → bytes.now ≡ [] → HandsBack reel said bytes
hands_none reel bytes (tile _) n e = elim n [ ]
hands_none reel bytes end n e = e
hands_none reel bytes (refused k from) n e = e

-- a refusal has the place that was asked for as its offset
pub refusal_stays : {reel : List ℕ} {at n from : ℕ} → NextTold reel at (refused n from) → from ≡ at
refusal_stays (start_cut h f) = refl
refusal_stays (no_mark h f) = refl
refusal_stays (header_cut k h m f) = refl
refusal_stays (headed there (refuses j)) = refl
refusal_stays (headed there (no_line j f)) = refl
refusal_stays (headed there (tile_cut j c f)) = refl

-- the rest is the reel from a place on
pub rest_drops : (reel rest : Bor (List ℕ)) (at : ℕ) (told : RestTold reel at rest) → rest.now ≡ drop told.from reel.now
rest_drops reel rest at told =
    told.is.holds ∙ take_all (length reel.now - told.from) (drop told.from reel.now) (omega (arith, length-drop told.from reel.now))
