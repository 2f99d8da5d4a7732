-- `mender::repair` meets its contract.
use Rattle.std.proofs.Common.{ap, ◌∙◌, arith, Ok}
use Rattle.cells.specs.Change.{added_changed}
use Rattle.size.specs.Passed.{passed_on}
use Rattle.promise.specs.Calls.{refuses}
use Rattle.promise.specs.Admit.{admitted_well, lattice_of}
use Rattle.mender.specs.Mended.{line_in, one_in, told_unclear, repair_ends}
use Rattle.mender.proofs.repair.Goals as goal
use Rattle.mender.proofs.repair.Goals.{in-Some, in_default}

pub returns-in_err-judge_tile : goal.returns-in_err-judge_tile
returns-in_err-judge_tile c =
    rw (passed_on c.from_residual.ensures.1) (refuses c.in_err-judge_tile.ensures)

pub invariant_of-find : goal.invariant_of-find
invariant_of-find c =
    lattice_of c.in_ok-judge_tile.ensures

pub find-requires : goal.find-requires
find-requires c =
    let w = admitted_well c.in_ok-judge_tile.ensures in record { takes = w.1; tile_len = w.2 }

pub returns-in_err-hurt : goal.returns-in_err-hurt
returns-in_err-hurt c =
    rw (passed_on c.from_residual-in_err-hurt.ensures.1) (repair_ends _ _ _ _ _ c.in_ok-judge_tile.ensures c.in_err-hurt.ensures (told_unclear _ _ _))

pub add_line-requires : goal.add_line-requires
add_line-requires c =
    let w = admitted_well c.in_ok-judge_tile.ensures in
    (omega (arith, w.0.low), w.0.high, w.2, one_in c.args.p (ap Ok c.in-Some.is) (line_in c.in_ok-hurt.ensures))

pub say-requires : goal.say-requires
say-requires c =
    let w = admitted_well c.in_ok-judge_tile.ensures in
    (omega (arith, w.0.low), w.0.high)

pub returns : goal.returns
returns c =
    let a = c.in_ok-judge_tile.ensures in
    let size = admitted_well a in
    elim c.match-hurt.branch [
      | in-Some w ↦
          rw w.tile-is
          (rw (added_changed c.args.p _ _ _ (omega (arith, size.0.low)) (w.add_line.ensures.tile_len_unchanged ∙ size.2) w.add_line.ensures.added)
          (repair_ends _ _ _ _ _ a (rw w.in-Some.is at c.in_ok-hurt.ensures) (rw w.hurt-is at c.say.ensures)))
      | in_default w ↦
          rw w.tile-is (repair_ends _ _ _ _ _ a (rw w.in_default.is at c.in_ok-hurt.ensures) (rw (w.hurt-is, w.in_default.is) at c.say.ensures))
    ]
