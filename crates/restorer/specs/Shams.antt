-- Wrong programs, each broken by a theorem: no such program meets its contract. Assumes nothing.
use Rattle.code.specs.declared.Line.{Line}
use Rattle.std.specs.Prelude.{◌≡◌, refl, List, ℕ, Option, Some, None}
use Rattle.std.proofs.Common.{inl, arith}
use Rattle.code.specs.declared.Kind.{Kind}
use Rattle.code.specs.declared.Line.TheVariants.{Row, Column}
use Rattle.size.specs.Shams.{size_5}
use Rattle.promise.specs.Answer.{done, clean, row}
use Rattle.promise.specs.Admit.{admits}
use Rattle.promise.specs.Explain.{row_fills}
use Rattle.promise.specs.Worked.{zeros, tile_6, taken_5_2}
use Rattle.promise.proofs.Worked.{claimed, worked_pair}
use Rattle.restorer.specs.Restore.{RestoreTold}
use Rattle.restorer.specs.Once.{restore_told_once}
use Rattle.restorer.specs.Promise.{Lines, lone_first, lone_second, sure_filled}

module _ (k : Kind) {first second : Option Line} where
  -- tile 6 of SPEC 10, in which repair finds row 0 hurt, is filled to zeros with a lone flag for that row
  pub restored_6 : Lines first second (Row 0) (Row 0) → RestoreTold k 5 2 tile_6 first second done zeros
  restored_6 lines = sure_filled k 5 2 tile_6 lines (inl tt) (admits size_5 (taken_5_2 k) refl) (omega arith) (omega arith) (row_fills (claimed 6 k).0)

  -- and zeros, which are good, are filled to zeros, as with a lone flag for column 3
  pub restored_zeros : Lines first second (Column 3) (Column 3) → RestoreTold k 5 2 zeros first second done zeros
  restored_zeros lines =
      sure_filled k 5 2 zeros lines (inl tt) (admits size_5 (taken_5_2 k) refl) (omega arith) (omega arith)
      (record { size = refl; good = worked_pair.0.good; agrees = λ i j hi hj d e. refl })

-- a program that passes over flags, and repairs
pub passes_over_flags : (k : Kind) (x : List ℕ) → RestoreTold k 5 2 tile_6 (Some (Row 0)) None (row 0) x → ⊥
passes_over_flags k x t =
    let e = (restore_told_once k 5 2 tile_6 (Some (Row 0)) None (row 0) done x zeros t (restored_6 k lone_first)).0 in let z : ◌≡◌ {A = ℕ} 0 1 = cc in omega arith

-- one that looks at the first flag alone, and takes a lone second one for none
pub lone_second_passed_over : (k : Kind) (x : List ℕ) → RestoreTold k 5 2 tile_6 None (Some (Row 0)) (row 0) x → ⊥
lone_second_passed_over k x t =
    let e = (restore_told_once k 5 2 tile_6 None (Some (Row 0)) (row 0) done x zeros t (restored_6 k lone_second)).0 in let z : ◌≡◌ {A = ℕ} 0 1 = cc in omega arith

-- one that tells a good tile clean although it has a flag
pub good_told_clean : (k : Kind) (x : List ℕ) → RestoreTold k 5 2 zeros (Some (Column 3)) None clean x → ⊥
good_told_clean k x t =
    let e = (restore_told_once k 5 2 zeros (Some (Column 3)) None clean done x zeros t (restored_zeros k lone_first)).0 in let z : ◌≡◌ {A = ℕ} 0 1 = cc in omega arith
