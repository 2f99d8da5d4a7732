-- SPEC 10: the whole reel, byte by byte, and what a walk along it lists; a reel on which an old record stands before it; and the reel with
-- flags. Assumes nothing.
use Rattle.std.specs.Prelude.{refl, List, [], ◌∷◌, ◌++◌, ℕ, ◌+◌, Option, Some, None}
use Rattle.std.proofs.Common.{arith, lit<, lit≤}
use Rattle.code.specs.declared.Line.{Line}
use Rattle.code.specs.declared.Kind.{Kind}
use Rattle.code.specs.declared.Kind.TheVariants.{New, Old}
use Rattle.code.specs.declared.Line.TheVariants.{Row, Column}
use Rattle.code.specs.Tile.{tile_length}
use Rattle.size.specs.Answer.{well, Judged, taken, no_slope}
use Rattle.size.specs.Shams.{size_5, size_7, at_5_2, new_as_old}
use Rattle.promise.specs.Worked.{zeros, tile_4, tile_6, tile_9}
use Rattle.flag.specs.Flag.{line_of, flag_of}
use Rattle.header.specs.Same.{header_there}
use Rattle.header.specs.declared.Mark.TheVariants as mark
use Rattle.reel.specs.Answer.{tile, end, refused}
use Rattle.reel.specs.Calls.{NextTold, ends, start_cut, headed, refuses, no_line, stands, AfterTold}
use Rattle.reel.specs.Walk.{WalkByPlace, goes_on, stops}
use Rattle.reel.specs.declared.Tile.{Tile}

-- a tile with this kind, number, size and slope, and with its bytes at this offset, that has these flags, or none
abbrev pub flagged_tile : ℕ → ℕ → ℕ → Option Line → Option Line → ℕ → Tile
flagged_tile number p l first second from = record { kind = New; number = number; p = p; l = l; first = first; second = second; at = from }

abbrev pub plain_tile : Kind → ℕ → ℕ → ℕ → ℕ → Tile
plain_tile k number p l from = record { kind = k; number = number; p = p; l = l; first = None; second = None; at = from }

-- ---- tile 7 of zeros, tile 8 with the byte 41 hex in cell (2, 3), and a lone byte 00

abbrev pub whole_case : List ℕ
whole_case =
    0xD5 ∷ 0x5D ∷ 0 ∷ 5 ∷ 0 ∷ 2 ∷ 0 ∷ 0 ∷ 0 ∷ 7 ∷ 0 ∷ 0 ∷ 0 ∷ 0 ∷ 0 ∷ 0 ∷ 0 ∷ 0 ∷ 0 ∷ 0 ∷ 0 ∷ 0 ∷ 0 ∷ 0 ∷ 0 ∷ 0
    ∷ 0xD5 ∷ 0x5D ∷ 0 ∷ 5 ∷ 0 ∷ 2 ∷ 0 ∷ 0 ∷ 0 ∷ 8 ∷ 0 ∷ 0 ∷ 0 ∷ 0 ∷ 0 ∷ 0 ∷ 0 ∷ 0 ∷ 0 ∷ 0 ∷ 0 ∷ 0x41 ∷ 0 ∷ 0 ∷ 0 ∷ 0
    ∷ 0 ∷ []

judged : Judged New 5 2 well
judged = taken size_5 at_5_2

-- what stands at the place of each record, and at the end
pub first : NextTold whole_case 0 (tile (plain_tile New 7 5 2 10))
first = headed (header_there whole_case 0 mark.Plain (refl, refl) (lit≤ tt)) (stands judged (tt, tt) (lit≤ tt))

pub second : NextTold whole_case 26 (tile (plain_tile New 8 5 2 36))
second = headed (header_there whole_case 26 mark.Plain (refl, refl) (lit≤ tt)) (stands judged (tt, tt) (lit≤ tt))

pub third : NextTold whole_case 52 (refused 7 52)
third = start_cut (lit< tt) (λ h. omega (arith, h))

pub behind : NextTold whole_case 53 end
behind = ends (lit≤ tt)

-- the place behind a tile
behind_it_lem : {reel : List ℕ} {at : ℕ} {t : Tile} → NextTold reel at (tile t) → AfterTold reel at (t.at + tile_length t.p)
behind_it_lem {reel} {at} {t} told = record { said = tile t; told = told; is = refl }

-- two tiles, and a refusal with 7 at offset 52
pub walked : WalkByPlace whole_case 0 (plain_tile New 7 5 2 10 ∷ plain_tile New 8 5 2 36 ∷ []) (refused 7 52)
walked = goes_on first (behind_it_lem first) (goes_on second (behind_it_lem second) (stops third tt))

-- ---- an old record

-- what stands behind the mark of a record: p 7, l 2, the number 9, and a tile of zeros
abbrev behind_mark : List ℕ
behind_mark =
    0 ∷ 7 ∷ 0 ∷ 2 ∷ 0 ∷ 0 ∷ 0 ∷ 9
    ∷ 0 ∷ 0 ∷ 0 ∷ 0 ∷ 0 ∷ 0 ∷ 0 ∷ 0 ∷ 0 ∷ 0 ∷ 0 ∷ 0 ∷ 0 ∷ 0 ∷ 0 ∷ 0 ∷ 0 ∷ 0
    ∷ 0 ∷ 0 ∷ 0 ∷ 0 ∷ 0 ∷ 0 ∷ 0 ∷ 0 ∷ 0 ∷ 0 ∷ 0 ∷ 0 ∷ 0 ∷ 0 ∷ 0 ∷ 0 ∷ 0 ∷ 0 ∷ []

-- an old record, and behind it the whole reel from above, whose records are new
abbrev pub old_case : List ℕ
old_case = 0x5D ∷ 0xD5 ∷ behind_mark ++ whole_case

-- at 7 the slope 2 is not allowed, and an old record has it
pub old_first : NextTold old_case 0 (tile (plain_tile Old 9 7 2 10))
old_first = headed (header_there old_case 0 mark.Old (refl, refl) (lit≤ tt)) (stands (taken size_7 (lit≤ tt, lit≤ tt)) (tt, tt) (lit≤ tt))

pub old_second : NextTold old_case 46 (tile (plain_tile New 7 5 2 56))
old_second = headed (header_there old_case 46 mark.Plain (refl, refl) (lit≤ tt)) (stands judged (tt, tt) (lit≤ tt))

pub old_third : NextTold old_case 72 (tile (plain_tile New 8 5 2 82))
old_third = headed (header_there old_case 72 mark.Plain (refl, refl) (lit≤ tt)) (stands judged (tt, tt) (lit≤ tt))

pub old_behind : NextTold old_case 98 (refused 7 98)
old_behind = start_cut (lit< tt) (λ h. omega (arith, h))

pub old_walked : WalkByPlace old_case 0 (plain_tile Old 9 7 2 10 ∷ plain_tile New 7 5 2 56 ∷ plain_tile New 8 5 2 82 ∷ []) (refused 7 98)
old_walked = goes_on old_first (behind_it_lem old_first) (goes_on old_second (behind_it_lem old_second) (goes_on old_third (behind_it_lem old_third) (stops old_behind tt)))

-- the same bytes behind the mark of a new record are refused with 2
abbrev pub new_case : List ℕ
new_case = 0xD5 ∷ 0x5D ∷ behind_mark ++ whole_case

pub new_first : NextTold new_case 0 (refused 2 0)
new_first = headed (header_there new_case 0 mark.Plain (refl, refl) (lit≤ tt)) (refuses (no_slope size_7 (λ t. new_as_old (taken size_7 t))))

-- ---- the reel with flags

abbrev pub flag_case : List ℕ
flag_case =
    (0xD5 ∷ 0x5E ∷ 0 ∷ 5 ∷ 0 ∷ 2 ∷ 0 ∷ 0 ∷ 0 ∷ 9 ∷ 0 ∷ 0 ∷ 0x80 ∷ 0 ∷ tile_9)
    ++ (0xD5 ∷ 0x5E ∷ 0 ∷ 5 ∷ 0 ∷ 2 ∷ 0 ∷ 0 ∷ 0 ∷ 10 ∷ 0xFF ∷ 0xFF ∷ 0 ∷ 0 ∷ tile_6)
    ++ (0xD5 ∷ 0x5E ∷ 0 ∷ 5 ∷ 0 ∷ 2 ∷ 0 ∷ 0 ∷ 0 ∷ 11 ∷ 0x80 ∷ 3 ∷ 0xFF ∷ 0xFF ∷ zeros)
    ++ (0xD5 ∷ 0x5E ∷ 0 ∷ 5 ∷ 0 ∷ 2 ∷ 0 ∷ 0 ∷ 0 ∷ 12 ∷ 0xFF ∷ 0xFF ∷ 0xFF ∷ 0xFF ∷ tile_4)
    ++ (0xD5 ∷ 0x5D ∷ 0 ∷ 5 ∷ 0 ∷ 2 ∷ 0 ∷ 0 ∷ 0 ∷ 13 ∷ tile_6)
    ++ (0xD5 ∷ 0x5E ∷ 0 ∷ 5 ∷ 0 ∷ 2 ∷ 0 ∷ 0 ∷ 0 ∷ 14 ∷ 0 ∷ 0 ∷ 0x80 ∷ 0 ∷ tile_4)
    ++ (0xD5 ∷ 0x5E ∷ 0 ∷ 5 ∷ 0 ∷ 2 ∷ 0 ∷ 0 ∷ 0 ∷ 15 ∷ 0 ∷ 4 ∷ 0xFF ∷ 0xFF ∷ [])

-- the flags that stand there
abbrev pub row_0 : Option Line
row_0 = Some (Row 0)

abbrev pub column_0 : Option Line
column_0 = Some (Column 0)

abbrev pub column_3 : Option Line
column_3 = Some (Column 3)

pub crossed : NextTold flag_case 0 (tile (flagged_tile 9 5 2 row_0 column_0 14))
unfolding flag_of line_of
crossed = headed (header_there flag_case 0 mark.Flagged (refl, refl) (lit≤ tt)) (stands judged (lit≤ tt, lit≤ tt) (lit≤ tt))

pub lone_second : NextTold flag_case 30 (tile (flagged_tile 10 5 2 None row_0 44))
unfolding flag_of line_of
lone_second = headed (header_there flag_case 30 mark.Flagged (refl, refl) (lit≤ tt)) (stands judged (tt, lit≤ tt) (lit≤ tt))

pub lone_first : NextTold flag_case 60 (tile (flagged_tile 11 5 2 column_3 None 74))
unfolding flag_of line_of
lone_first = headed (header_there flag_case 60 mark.Flagged (refl, refl) (lit≤ tt)) (stands judged (lit≤ tt, tt) (lit≤ tt))

pub no_flags : NextTold flag_case 90 (tile (flagged_tile 12 5 2 None None 104))
unfolding flag_of line_of
no_flags = headed (header_there flag_case 90 mark.Flagged (refl, refl) (lit≤ tt)) (stands judged (tt, tt) (lit≤ tt))

pub unflagged : NextTold flag_case 120 (tile (plain_tile New 13 5 2 130))
unflagged = headed (header_there flag_case 120 mark.Plain (refl, refl) (lit≤ tt)) (stands judged (tt, tt) (lit≤ tt))

pub no_filling : NextTold flag_case 146 (tile (flagged_tile 14 5 2 row_0 column_0 160))
unfolding flag_of line_of
no_filling = headed (header_there flag_case 146 mark.Flagged (refl, refl) (lit≤ tt)) (stands judged (lit≤ tt, lit≤ tt) (lit≤ tt))

-- row 4 is no row at p 5; that the tile is missing too is not told
pub no_row_4 : NextTold flag_case 176 (refused 4 176)
unfolding flag_of line_of
no_row_4 = headed (header_there flag_case 176 mark.Flagged (refl, refl) (lit≤ tt)) (no_line judged (λ c. omega (arith, c.0)))

-- six tiles, and a refusal with 4 at offset 176
pub flag_walked : WalkByPlace flag_case 0
    (flagged_tile 9 5 2 row_0 column_0 14
    ∷ flagged_tile 10 5 2 None row_0 44
    ∷ flagged_tile 11 5 2 column_3 None 74
    ∷ flagged_tile 12 5 2 None None 104
    ∷ plain_tile New 13 5 2 130
    ∷ flagged_tile 14 5 2 row_0 column_0 160
    ∷ [])
    (refused 4 176)
flag_walked =
    goes_on crossed (behind_it_lem crossed) (goes_on lone_second (behind_it_lem lone_second) (goes_on lone_first (behind_it_lem lone_first)
    (goes_on no_flags (behind_it_lem no_flags) (goes_on unflagged (behind_it_lem unflagged) (goes_on no_filling (behind_it_lem no_filling) (stops no_row_4 tt))))))
