-- WHAT WAS LAID IS READ AGAIN (SPEC 7.7): as the tile that was lent, with what its header says, wherever the record stands; and a walk
-- along a reel that was laid record by record gives all of them, one after the other. Assumes nothing.
use Rattle.std.specs.Prelude.{◌≡◌, List, [], ◌∷◌, ◌++◌, ℕ, ◌+◌, ◌<◌, length, take, drop}
use Rattle.std.proofs.Common.{arith}
use Rattle.code.specs.Tile.{tile_length}
use Rattle.header.specs.Header.{header_length}
use Rattle.header.specs.Record.{Fit, RecordOf}
use Rattle.header.specs.Laid.{counted}
use Rattle.header.specs.declared.Header.{Header}
use Rattle.reel.specs.Answer.{tile, end, tile_of}
use Rattle.reel.specs.Calls.{NextTold}
use Rattle.reel.specs.Walk.{WalkByPlace}
use Rattle.reel.specs.Laid.{Printed, Laid, ReadBack}
use Rattle.reel.specs.Laid as put
use Rattle.reel.specs.Records.{record_back, laid_back}
use Rattle.reel.specs.declared.Tile.{Tile}
use Rattle.printer.specs.Lay.{laid, LayTold, lays}
use Rattle.printer.specs.Laying.{taken_fit}

-- a number that is read from four bytes fits them
number_short : {h : Header} {tile_list bytes : List ℕ} → RecordOf h tile_list bytes → h.number < 4294967296
number_short {h} of =
    let byte = of.of_bytes in
    let ten = (counted h.mark).0 in
    omega (arith, of.header.number, byte 6 (omega (arith, ten)), byte 7 (omega (arith, ten)), byte 8 (omega (arith, ten)), byte 9 (omega (arith, ten)))

-- what is laid is the record of a tile that may be laid
pub laid_fit : {h : Header} {tile_list room new : List ℕ} {n : ℕ} → LayTold h tile_list room (laid n) new
    → Fit h tile_list × RecordOf h tile_list (take n new)
laid_fit (lays taken carries fits first) = (taken_fit taken carries (number_short first.is), first.is)

-- so it is read as itself, whatever stands before it and behind it
pub laid_reads_back : {h : Header} {tile_list room new : List ℕ} {n : ℕ} → LayTold h tile_list room (laid n) new → (before behind : List ℕ)
    → NextTold (before ++ (take n new ++ behind)) (length before) (tile (tile_of h (length before)))
    × (take (tile_length h.p) (drop (length before + header_length h.mark) (before ++ (take n new ++ behind))) ≡ tile_list)
laid_reads_back {h} {tile_list} {room} {new} {n} told before behind =
    let fit = laid_fit told in record_back h tile_list (take n new) fit.0 fit.1 before behind

-- a reel of records that were laid one after the other, each in some room
pub data Built : List Printed → List ℕ → Type 0 where
  none : Built [] []
  more : {t : Printed} {room new : List ℕ} {n : ℕ} {ts : List Printed} {reel : List ℕ} → LayTold t.header t.tile room (laid n) new → Built ts reel
      → Built (t ∷ ts) (take n new ++ reel)

built_laid : {ts : List Printed} {reel : List ℕ} → Built ts reel → Laid ts reel
built_laid none = put.Laid.none
built_laid (more told rest) = let fit = laid_fit told in put.Laid.more fit.0 fit.1 (built_laid rest)

-- A WALK ALONG SUCH A REEL gives them one after the other, and then comes the end
pub built_lists : (ts : List Printed) (reel : List ℕ) → Built ts reel → (listed : List Tile) × WalkByPlace reel 0 listed end × ReadBack reel listed ts
built_lists ts reel built = laid_back ts reel (built_laid built)
