-- SPEC 10: that the worked recoveries 25 to 30 do what is claimed of them in `WorkedRecovered` of specs/. Each follows from what repair
-- does with the scan (`Worked`), and the text of the tile that it leaves, which is computed. Assumes nothing.
use Rattle.std.specs.Prelude.{◌≡◌, refl, List, ℕ, ◌-◌, length, get_or}
use Rattle.std.proofs.Common.{arith}
use Rattle.code.specs.Tabulate.{tabulate}
use Rattle.code.specs.Tile.{tile_length, place, cell, text_from, text_of}
use Rattle.code.specs.declared.Kind.{Kind}
use Rattle.size.specs.Answer as size
use Rattle.size.specs.Shams.{size_5}
use Rattle.promise.specs.Answer.{Said, clean, column, row, refused}
use Rattle.promise.specs.Calls.{Admitted, BothLengths, RepairTold, InspectTold, Granted, RecoverTold}
use Rattle.promise.specs.Admit.{admits}
use Rattle.promise.specs.Name.{in_granted, granted_clean}
use Rattle.promise.specs.Once.{inspect_told_once, recover_told_once}
use Rattle.promise.specs.Decide.{same, Each, numbered}
use Rattle.promise.specs.Worked.{Exactly, exactly, taken_5_2, zeros, tile_2, tile_4, tile_5, tile_6, tile_7, tile_8, repaired_8, text_2}
use Rattle.promise.specs.WorkedRecovered.{Claim, recovery, cases, nines, zeros_text, text_8}
use Rattle.promise.proofs.Worked.{claimed, other_claimed}

-- a scan of the right length is admitted, with nines
admitted : (k : Kind) (scan : List ℕ) → length scan ≡ tile_length 5 → Admitted k 5 2 (BothLengths 5 scan nines) size.well
admitted k scan e = admits size_5 (taken_5_2 k) (e, refl)

-- what repair does with a scan makes a claim: of one that it leaves, with the text of that tile; of one that it refuses, with nines
claim : {scan tile : List ℕ} {said : Said} {text : List ℕ} → ((k : Kind) → RecoverTold k 5 2 scan nines said text)
    → ((k : Kind) → Exactly (RepairTold k 5 2 scan) said tile) → Claim (recovery scan said text)
claim {scan} {tile} {said} {text} r t k =
    let i : InspectTold k 5 2 scan said = record { tile = tile; told = (t k).0 } in
    (exactly (RecoverTold k 5 2 scan nines) (recover_told_once k 5 2 scan nines) said text (r k), i, λ u v. inspect_told_once k 5 2 scan u said v i)

by_repair : {scan tile : List ℕ} {said : Said} (text : List ℕ) → length scan ≡ tile_length 5 → Granted said → text_of 5 tile ≡ text
    → ((k : Kind) → Exactly (RepairTold k 5 2 scan) said tile) → Claim (recovery scan said text)
by_repair {scan} {tile} {said} text e d q t = claim (λ k. rw (← q) (RecoverTold.recovers (admitted k scan e) d (t k).0)) t

-- THE WORKED RECOVERIES: every claim of the list holds
pub recovered : Each Claim cases
unfolding same cell place text_from text_of tabulate
recovered =
    let none = (same (text_of 5 zeros) zeros_text).shows tt in
    let of_2 : Claim (recovery tile_2 clean text_2) = by_repair text_2 refl granted_clean ((same (text_of 5 tile_2) text_2).shows tt) (other_claimed 4) in
    let of_4 : Claim (recovery tile_4 (Said.cell 2 3) zeros_text) = by_repair zeros_text refl (in_granted 5 (Said.cell 2 3) (omega arith, omega arith)) none (claimed 4) in
    let of_5 : Claim (recovery tile_5 (column 0) zeros_text) = by_repair zeros_text refl (in_granted 5 (column 0) (omega arith)) none (claimed 5) in
    let of_6 : Claim (recovery tile_6 (row 0) zeros_text) = by_repair zeros_text refl (in_granted 5 (row 0) (omega arith)) none (claimed 6) in
    let of_8 : Claim (recovery tile_8 (column 3) text_8) = by_repair text_8 refl (in_granted 5 (column 3) (omega arith)) ((same (text_of 5 repaired_8) text_8).shows tt) (claimed 8) in
    let of_7 : Claim (recovery tile_7 (refused 5) nines) = claim (λ k. RecoverTold.unrepaired (admitted k tile_7 refl) (record { tile = tile_7; told = (claimed 7 k).0 })) (claimed 7) in
    (of_2, (of_4, (of_5, (of_6, (of_8, (of_7, tt))))))

-- the claim of a case by its number in SPEC 10
pub recovery_claimed : (k : ℕ) → Claim (get_or cases (k - 25) (recovery tile_2 clean text_2))
recovery_claimed k = numbered Claim (recovery tile_2 clean text_2) recovered.0 cases recovered (k - 25)
