-- `sheet::correct` meets its contract.
use Rattle.size.specs.Passed.{passed_on}
use Rattle.promise.specs.Admit.{admitted_well, lattice_of}
use Rattle.sheet.specs.Judge.{judged_sound}
use Rattle.sheet.specs.Calls.{refuses, faulty, corrects}
use Rattle.sheet.proofs.correct.Goals as goal

pub returns-in_err-judge_tile : goal.returns-in_err-judge_tile
returns-in_err-judge_tile c =
    rw (passed_on c.from_residual.ensures.1) (refuses c.in_err-judge_tile.ensures)

pub returns-in_err-records : goal.returns-in_err-records
returns-in_err-records c =
    rw (passed_on c.from_residual-in_err-records.ensures.1) (faulty c.in_ok-judge_tile.ensures c.in_err-records.ensures)

pub invariant_of-make : goal.invariant_of-make
invariant_of-make c =
    lattice_of c.in_ok-judge_tile.ensures

pub make-requires : goal.make-requires
make-requires c = record { tile_len = (admitted_well c.in_ok-judge_tile.ensures).2; sound_below = judged_sound c.in_ok-records.ensures }

pub returns : goal.returns
returns c = corrects c.in_ok-judge_tile.ensures c.in_ok-records.ensures c.make.ensures
