-- `mender::recover` meets its contract.
use Rattle.std.proofs.Common.{refl, ap, ◌∙◌, arith, length, Ok}
use Rattle.code.specs.Place.{text_length_lem}
use Rattle.cells.specs.Change.{changed_added, text_added}
use Rattle.size.specs.Passed.{passed_on}
use Rattle.promise.specs.Calls.{RecoverTold}
use Rattle.promise.specs.Admit.{admitted_well, lattice_of}
use Rattle.mender.specs.Mended.{line_in, one_in, told_unclear, recover_ends}
use Rattle.mender.proofs.recover.Goals as goal
use Rattle.mender.proofs.recover.Goals.{in-Some, in_default}

pub returns-in_err-judge_text : goal.returns-in_err-judge_text
returns-in_err-judge_text c =
    rw (passed_on c.from_residual.ensures.1) (RecoverTold.refuses c.in_err-judge_text.ensures)

pub invariant_of-find : goal.invariant_of-find
invariant_of-find c =
    lattice_of c.in_ok-judge_text.ensures

pub find-requires : goal.find-requires
find-requires c =
    let w = admitted_well c.in_ok-judge_text.ensures in record { takes = w.1; tile_len = w.2.0 }

pub returns-in_err-hurt : goal.returns-in_err-hurt
returns-in_err-hurt c =
    rw (passed_on c.from_residual-in_err-hurt.ensures.1) (recover_ends _ _ _ _ _ _ c.in_ok-judge_text.ensures c.in_err-hurt.ensures (told_unclear _ _ _) refl)

pub take-requires : goal.take-requires
take-requires c =
    let w = admitted_well c.in_ok-judge_text.ensures in
    record { low = omega (arith, w.0.low); high = w.0.high; tile = w.2.0; text = w.2.1 }

pub add_to_text-requires : goal.add_to_text-requires
add_to_text-requires c =
    let w = admitted_well c.in_ok-judge_text.ensures in
    (omega (arith, w.0.low), w.0.high, ap length c.take.ensures ∙ text_length_lem c.args.p _, one_in c.args.p (ap Ok c.in-Some.is) (line_in c.in_ok-hurt.ensures))

pub say-requires : goal.say-requires
say-requires c =
    let w = admitted_well c.in_ok-judge_text.ensures in
    (omega (arith, w.0.low), w.0.high)

pub returns : goal.returns
returns c =
    let a = c.in_ok-judge_text.ensures in
    let size = admitted_well a in
    elim c.match-hurt.branch [
      | in-Some w ↦
          rw w.text-is
          (recover_ends _ _ _ _ _ _ a (rw w.in-Some.is at c.in_ok-hurt.ensures) (rw w.hurt-is at c.say.ensures)
          (text_added c.args.p _ _ (omega (arith, size.0.low)) (changed_added c.args.p _ _) c.take.ensures w.add_to_text.ensures))
      | in_default w ↦
          rw w.text-is
          (recover_ends _ _ _ _ _ _ a (rw w.in_default.is at c.in_ok-hurt.ensures) (rw (w.hurt-is, w.in_default.is) at c.say.ensures) c.take.ensures)
    ]
