-- Wrong programs, each broken by a theorem: no such program meets the contract. Assumes nothing.
use Rattle.std.specs.Prelude.{◌≡◌, List, ℕ, get_or}
use Rattle.std.proofs.Common.{sym, ap, ◌∙◌, arith}
use Rattle.code.specs.declared.Kind.{Kind}
use Rattle.promise.specs.Worked.{zeros, tile_1, tile_4, copied_1}
use Rattle.promise.proofs.Shams.{wrong_answer, wrong_bytes}
use Rattle.sheet.specs.Sheet.{records}
use Rattle.sheet.specs.Answer.{Said, corrected, refused}
use Rattle.sheet.specs.Judge.{judged_count}
use Rattle.sheet.specs.Calls.{CorrectTold}
use Rattle.sheet.specs.Worked.{sheet_11, sheet_two, hurt_cell, claimed, other_claimed}

-- a sheet that leaves the tile as it was
pub does_nothing : (k : Kind) (said : Said) → CorrectTold k 5 2 tile_4 sheet_11 said tile_4 → ⊥
does_nothing k said = wrong_bytes (CorrectTold k 5 2 tile_4 sheet_11) ((claimed 11).1 k).0 said tile_4 (λ e. cc)

-- one of which the first record alone is made: of the two records the second is missing
pub first_record_alone : (k : Kind) (said : Said) → CorrectTold k 5 2 zeros sheet_two said tile_1 → ⊥
first_record_alone k said = wrong_bytes (CorrectTold k 5 2 zeros sheet_two) ((other_claimed 2).1 k).0 said tile_1 (λ e. cc)

-- an invented count, whatever the sheet and the tile
pub invented_count : (k : Kind) (p l n : ℕ) (tile sheet new : List ℕ) → (n ≡ records sheet → ⊥) → CorrectTold k p l tile sheet (corrected n) new → ⊥
invented_count k p l n tile sheet new d (CorrectTold.corrects h j c) = d (judged_count sheet n j).0

-- one that touches the cells and leaves the checks
pub leaves_checks : (k : Kind) (said : Said) → CorrectTold k 5 2 zeros sheet_11 said copied_1 → ⊥
leaves_checks k said = wrong_bytes (CorrectTold k 5 2 zeros sheet_11) ((other_claimed 1).1 k).0 said copied_1 (λ e. cc)

-- one that writes `is` over the cell, which is damaged: the tile then holds 1 at (0,0), whatever it holds elsewhere
pub writes_is : (k : Kind) (said : Said) (new : List ℕ) → get_or new 0 0 ≡ 1 → CorrectTold k 5 2 hurt_cell sheet_11 said new → ⊥
writes_is k said new e told =
    let q = ap (λ (x : List ℕ). get_or x 0 0) (((other_claimed 3).1 k).0.1 said new told).1 in let z : ◌≡◌ {A = ℕ} 3 1 = sym q ∙ e in omega arith

-- one that compares `was` with the cell, and refuses where they differ
pub compares_was : (k : Kind) (n at : ℕ) (new : List ℕ) → CorrectTold k 5 2 hurt_cell sheet_11 (refused n at) new → ⊥
compares_was k n at new = wrong_answer (CorrectTold k 5 2 hurt_cell sheet_11) ((other_claimed 3).1 k).0 (refused n at) new (λ e. cc)
