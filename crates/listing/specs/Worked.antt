-- SPEC 10, the whole reel and the reel with flags line by line; the empty reel, the other answers, and the numbers at the edges. Assumes
-- nothing.
use Rattle.std.specs.Prelude.{◌≡◌, refl, List, [], ◌∷◌, ℕ, take, drop}
use Rattle.std.proofs.Common.{subst, arith}
use Rattle.xor.specs.Xor.{◌⊕◌}
use Rattle.xor.specs.Sum.{xor_below}
use Rattle.code.specs.Tile.{tile_length, place, cell, sum}
use Rattle.residue.specs.Test.{up_to}
use Rattle.code.specs.declared.Kind.TheVariants.{New, Old}
use Rattle.size.specs.Answer as size
use Rattle.size.specs.Shams.{size_7}
use Rattle.promise.specs.Answer.{Said, done, clean, column, row, refused}
use Rattle.promise.specs.Decide.{both, same, good, outside, differing, filling, one_byte}
use Rattle.promise.specs.Worked.{Claim, repairs, zeros, tile_10, mends, admitted_tile, tested}
use Rattle.promise.specs.Worked as worked
use Rattle.promise.specs.WorkedOld.{tile_14, worked_14}
use Rattle.promise.proofs.Worked.{claimed}
use Rattle.reel.specs.Answer.{tile}
use Rattle.restorer.specs.Restore.{RestoreTold}
use Rattle.restorer.specs.Promise as restorer
use Rattle.restorer.specs.Shams.{restored_6, restored_zeros}
use Rattle.header.specs.Same.{header_there}
use Rattle.header.specs.declared.Mark.TheVariants as mark
use Rattle.reel.specs.Calls.{NextTold, ends, headed, stands}
use Rattle.reel.specs.Worked.{plain_tile, whole_case, first, second, walked, flag_case, crossed, lone_second, lone_first, no_flags, unflagged, no_filling, flag_walked}
use Rattle.reel.specs.declared.Tile.{Tile}
use Rattle.lettering.specs.Line.{ascii, digits_up_to, decimal, state_text, tile_line, end_line, stopped_line}
use Rattle.listing.specs.Listing.{TileListed, lists, Closes, stops}
use Rattle.listing.specs.Reached.{reached_first, reached_ends}
use Rattle.listing.specs.Once.{listed_once, closes_once}

-- ---- the texts

pub tile_7 : tile_line 7 5 2 clean ≡ ascii "7 5 2 clean\n"
unfolding tile_line state_text decimal digits_up_to
tile_7 = refl

pub tile_8 : tile_line 8 5 2 (Said.cell 2 3) ≡ ascii "8 5 2 cell 2 3\n"
unfolding tile_line state_text decimal digits_up_to
tile_8 = refl

pub stopped_7 : stopped_line 7 52 ≡ ascii "stopped 7 52\n"
unfolding stopped_line decimal digits_up_to
stopped_7 = refl

pub stopped_4 : stopped_line 4 176 ≡ ascii "stopped 4 176\n"
unfolding stopped_line decimal digits_up_to
stopped_4 = refl

-- the empty reel has no tiles (SPEC 7.1)
pub end_0 : end_line 0 ≡ ascii "end 0\n"
unfolding end_line decimal digits_up_to
end_0 = refl

-- the other answers, and the numbers at the edges
pub column_3 : tile_line 8 5 2 (column 3) ≡ ascii "8 5 2 column 3\n"
unfolding tile_line state_text decimal digits_up_to
column_3 = refl

pub row_10 : tile_line 0 11 2 (row 10) ≡ ascii "0 11 2 row 10\n"
unfolding tile_line state_text decimal digits_up_to
row_10 = refl

pub refused_5 : tile_line 4294967295 257 3 (refused 5) ≡ ascii "4294967295 257 3 refused 5\n"
unfolding tile_line state_text decimal digits_up_to
refused_5 = refl

pub refused_8 : tile_line 9 7 2 (refused 8) ≡ ascii "9 7 2 refused 8\n"
unfolding tile_line state_text decimal digits_up_to
refused_8 = refl

pub filled_9 : tile_line 9 5 2 done ≡ ascii "9 5 2 filled\n"
unfolding tile_line state_text decimal digits_up_to
filled_9 = refl

pub largest : decimal 18446744073709551615 ≡ ascii "18446744073709551615"
unfolding decimal digits_up_to
largest = refl

-- ---- the whole reel of SPEC 10: tile 7 of zeros, tile 8 with the byte 41 hex in cell (2, 3), and a lone byte 00

abbrev hurt : List ℕ
hurt = 0 ∷ 0 ∷ 0 ∷ 0 ∷ 0 ∷ 0 ∷ 0 ∷ 0 ∷ 0 ∷ 0 ∷ 0 ∷ 0x41 ∷ 0 ∷ 0 ∷ 0 ∷ 0 ∷ []

-- what repair says of the two tiles
computed : Claim (repairs zeros clean zeros) × Claim (repairs hurt (Said.cell 2 3) zeros)
unfolding tested mends admitted_tile same good outside differing filling one_byte up_to sum cell place xor_below ◌⊕◌
computed = (both (tested (repairs zeros clean zeros)) (tested (repairs hurt (Said.cell 2 3) zeros))).shows tt

-- a text that R asks for, and no other
abbrev pub Only : (List ℕ → Type 0) → List ℕ → Type 0
Only R text = R text × ((other : List ℕ) → R other → other ≡ text)

-- the three lines, each settled
pub first_line : Only (TileListed whole_case 0) (ascii "7 5 2 clean\n")
first_line =
    let line = rw tile_7 at (lists first (record { new = zeros; told = (computed.0 New).0 })) in
    (line, λ other said. listed_once said line)

pub second_line : Only (TileListed whole_case 26) (ascii "8 5 2 cell 2 3\n")
second_line =
    let line = rw tile_8 at (lists second (record { new = zeros; told = (computed.1 New).0 })) in
    (line, λ other said. listed_once said line)

pub closing_line : Only (Closes whole_case) (ascii "stopped 7 52\n")
closing_line =
    let line = rw stopped_7 at (stops walked) in
    (line, λ other said. closes_once said line)

-- and that of the empty reel
pub empty : Only (Closes []) (ascii "end 0\n")
empty =
    let line = rw end_0 at (reached_ends (reached_first []) (ends (omega arith))) in
    (line, λ other said. closes_once said line)

-- ---- an old record, whose tile is number 14 of SPEC 10: it is listed as doubtful

abbrev pub doubtful_case : List ℕ
doubtful_case = 0x5D ∷ 0xD5 ∷ 0 ∷ 7 ∷ 0 ∷ 2 ∷ 0 ∷ 0 ∷ 0 ∷ 9 ∷ tile_14

pub doubtful_line : Only (TileListed doubtful_case 0) (ascii "9 7 2 refused 8\n")
doubtful_line =
    let stands_there : NextTold doubtful_case 0 (tile (plain_tile Old 9 7 2 10)) =
    headed (header_there doubtful_case 0 mark.Old (refl, refl) (omega arith)) (stands (size.taken size_7 (omega arith, omega arith)) (tt, tt) (omega arith)) in
    let line = rw refused_8 at (lists stands_there (record { new = tile_14; told = worked_14.0 })) in
    (line, λ other said. listed_once said line)

-- ---- the reel with flags of SPEC 10

-- a line of it, as it is told and as it reads
flag_line : {at : ℕ} {t : Tile} (said : Said) (new text : List ℕ) → NextTold flag_case at (tile t)
    → RestoreTold t.kind t.p t.l (take (tile_length t.p) (drop t.at flag_case)) t.first t.second said new
    → tile_line t.number t.p t.l said ≡ text → Only (TileListed flag_case at) text
flag_line {at} {t} said new text told restored e =
    let line = subst (TileListed flag_case at) e (lists told (record { new = new; told = restored })) in
    (line, λ other listed. listed_once listed line)

-- row 0 and column 0 are lost, as in tile 9; row 0 is, and that is the second flag; column 3 is, of a tile that is good
pub crossed_line : Only (TileListed flag_case 0) (ascii "9 5 2 filled\n")
unfolding tile_line state_text decimal digits_up_to
crossed_line = flag_line done worked.filled_9 (ascii "9 5 2 filled\n") crossed (claimed 9 New).0 refl

pub lone_second_line : Only (TileListed flag_case 30) (ascii "10 5 2 filled\n")
unfolding tile_line state_text decimal digits_up_to
lone_second_line = flag_line done zeros (ascii "10 5 2 filled\n") lone_second (restored_6 New restorer.lone_second) refl

pub good_line : Only (TileListed flag_case 60) (ascii "11 5 2 filled\n")
unfolding tile_line state_text decimal digits_up_to
good_line = flag_line done zeros (ascii "11 5 2 filled\n") lone_first (restored_zeros New restorer.lone_first) refl

-- nothing is lost, in a flagged record and in a plain one
pub no_flags_line : Only (TileListed flag_case 90) (ascii "12 5 2 cell 2 3\n")
unfolding tile_line state_text decimal digits_up_to
no_flags_line = flag_line (Said.cell 2 3) zeros (ascii "12 5 2 cell 2 3\n") no_flags (claimed 4 New).0 refl

pub unflagged_line : Only (TileListed flag_case 120) (ascii "13 5 2 row 0\n")
unfolding tile_line state_text decimal digits_up_to
unflagged_line = flag_line (row 0) zeros (ascii "13 5 2 row 0\n") unflagged (claimed 6 New).0 refl

-- the flagged lines have no filling, as in tile 10
pub no_filling_line : Only (TileListed flag_case 146) (ascii "14 5 2 refused 5\n")
unfolding tile_line state_text decimal digits_up_to
no_filling_line = flag_line (refused 5) tile_10 (ascii "14 5 2 refused 5\n") no_filling (claimed 10 New).0 refl

-- and the line that closes it: row 4 is flagged, and a tile of size 5 has no such row
pub flag_closing_line : Only (Closes flag_case) (ascii "stopped 4 176\n")
flag_closing_line =
    let line = rw stopped_4 at (stops flag_walked) in
    (line, λ other said. closes_once said line)
