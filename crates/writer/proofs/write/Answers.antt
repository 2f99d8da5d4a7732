-- `writer::write` meets its contract.
use mathlib.Core.Path.{◌∙◌}
use native.Mathlib.Omega.{arith}
use Rattle.code.specs.Held.{held}
use Rattle.chain.specs.Cases.{held_totals}
use Rattle.size.specs.Passed.{passed_on}
use Rattle.promise.specs.Calls.{refuses}
use Rattle.promise.specs.Admit.{admitted_well, lattice_of, shape_of}
use Rattle.writer.specs.Written.{ends_written}
use Rattle.writer.proofs.write.Goals as goal

pub lay-requires : goal.lay-requires
lay-requires c =
    let w = admitted_well c.in_ok-judge_text.ensures in
    record { low = omega (arith, w.0.low); high = w.0.high; tile = w.2.0; text = w.2.1 }

pub both_sums-requires : goal.both_sums-requires
both_sums-requires c =
    let a = c.in_ok-judge_text.ensures in
    record { shape = shape_of a (c.lay.ensures.size ∙ (admitted_well a).2.0) }

pub invariant_of-settle : goal.invariant_of-settle
invariant_of-settle c =
    lattice_of c.in_ok-judge_text.ensures

pub settle-requires : goal.settle-requires
settle-requires c =
    record {
      tile_len = c.lay.ensures.size ∙ (admitted_well c.in_ok-judge_text.ensures).2.0;
      a_value = held_totals c.args.p c.args.l _ c.both_sums.new.a c.both_sums.new.b
          c.both_sums.ensures.sums c.both_sums.ensures.sums_2;
    }

pub returns-in_err-judge_text : goal.returns-in_err-judge_text
returns-in_err-judge_text c =
    rw (passed_on c.from_residual.ensures.1) (refuses c.in_err-judge_text.ensures)

pub returns : goal.returns
returns c =
    ends_written c.args.kind c.args.p c.args.l (held c.both_sums.new.a) (held c.both_sums.new.b)
    c.args.text.now c.args.tile.now _ _
    c.in_ok-judge_text.ensures
    c.lay.ensures c.both_sums.ensures.sums c.both_sums.ensures.sums_2 c.settle.ensures
