-- What a plan rests on: where a size and a slope are taken the size is one, its tile has room in 65,536 bytes, and a record that is laid
-- lies in its room. Assumes nothing.
use Rattle.std.specs.Prelude.{List, ℕ, ◌-◌, ◌≤◌, length}
use Rattle.std.proofs.Common.{sym, mul-le-mul, arith, length-take-le}
use Rattle.io.specs.Counts.{IsPrefixLen}
use Rattle.residue.specs.Size.{Size}
use Rattle.code.specs.Tile.{tile_length}
use Rattle.code.specs.declared.Kind.{Kind}
use Rattle.size.specs.Answer.{Judged, well}
use Rattle.size.specs.Told.{judged_well}
use Rattle.header.specs.declared.Header.{Header}
use Rattle.printer.specs.Lay.{LayTold, lays, laid, record_length}

pub taken_size : {k : Kind} {p l : ℕ} → Judged k p l well → Size p
taken_size told = (judged_well told).0

pub tile_fits : {p : ℕ} → Size p → tile_length p ≤ 65536
tile_fits {p} size = let rows : p - 1 ≤ 256 = omega (arith, size.high) in omega (arith, mul-le-mul rows rows)

pub laid_within : {h : Header} {tile room new : List ℕ} {n : ℕ} → LayTold h tile room (laid n) new → IsPrefixLen n new
laid_within {h} {tile} {room} {new} (lays taken carries fits first) =
    let within : record_length h tile ≤ length new = omega (arith, fits, first.long) in
    (within, sym (length-take-le (record_length h tile) new within))
