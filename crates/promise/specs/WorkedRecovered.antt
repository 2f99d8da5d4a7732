-- SPEC 10: the worked recoveries 25 to 31, all claimed at once but for the last, which is an old tile's. Each follows from what repair does
-- with the scan (`Worked`, `WorkedOld`), and the text of the tile that it leaves, which is computed. That the claims of 25 to 30 hold is
-- `WorkedRecovered` of proofs/. Assumes nothing.
use Rattle.std.specs.Prelude.{◌≡◌, refl, List, [], ◌∷◌, ℕ, length}
use Rattle.std.proofs.Common.{arith}
use Rattle.code.specs.Tile.{text_length}
use Rattle.code.specs.declared.Kind.{Kind}
use Rattle.code.specs.declared.Kind.TheVariants.{Old}
use Rattle.size.specs.Shams.{size_7}
use Rattle.promise.specs.Answer.{Said, clean, column, row, refused}
use Rattle.promise.specs.Calls.{InspectTold, RecoverTold}
use Rattle.promise.specs.Admit.{admits}
use Rattle.promise.specs.Once.{recover_told_once}
use Rattle.promise.specs.Worked.{Exactly, exactly, text_2, tile_2, tile_4, tile_5, tile_6, tile_7, tile_8}
use Rattle.promise.specs.WorkedOld as old

-- the text that is lent, which shows what is left there
abbrev pub nines : List ℕ
nines = 9 ∷ 9 ∷ 9 ∷ 9 ∷ 9 ∷ 9 ∷ 9 ∷ 9 ∷ []

-- a text of zeros, and the one of SPEC 10, tile 8
abbrev pub zeros_text : List ℕ
zeros_text = 0 ∷ 0 ∷ 0 ∷ 0 ∷ 0 ∷ 0 ∷ 0 ∷ 0 ∷ []

abbrev pub text_8 : List ℕ
text_8 = 1 ∷ 0 ∷ 0 ∷ 1 ∷ 0 ∷ 0 ∷ 0 ∷ 0 ∷ []

-- a case: a scan, what is said of it, and the text that is left
pub data Recovery : Type 0 where
  recovery : List ℕ → Said → List ℕ → Recovery

-- what it claims, of either kind: recover, lent nines, says this and leaves this text, and nothing else; and inspect says this, and nothing
-- else
abbrev pub Claim : Recovery → Type 0
Claim (recovery scan said text) = (k : Kind)
    → Exactly (RecoverTold k 5 2 scan nines) said text × InspectTold k 5 2 scan said × ((t : Said) → InspectTold k 5 2 scan t → t ≡ said)

-- recoveries 25 to 30
abbrev pub cases : List Recovery
cases =
    recovery tile_2 clean text_2
    ∷ recovery tile_4 (Said.cell 2 3) zeros_text
    ∷ recovery tile_5 (column 0) zeros_text
    ∷ recovery tile_6 (row 0) zeros_text
    ∷ recovery tile_8 (column 3) text_8
    ∷ recovery tile_7 (refused 5) nines
    ∷ []

-- SPEC 10, recovery 31: the old tile 14 is doubtful, refused 8, and the text stays
pub recovered_31 : (text : List ℕ) → length text ≡ text_length 7 → Exactly (RecoverTold Old 7 2 old.tile_14 text) (refused 8) text
recovered_31 text e = exactly (RecoverTold Old 7 2 old.tile_14 text) (recover_told_once Old 7 2 old.tile_14 text) (refused 8) text
    (RecoverTold.unrepaired (admits size_7 (omega arith, omega arith) (refl, e)) (record { tile = old.tile_14; told = (old.worked_14).0 }))
