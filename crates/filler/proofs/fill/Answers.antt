-- `filler::fill` meets its contract.
use mathlib.Core.Path.{◌∙◌}
use native.Mathlib.Omega.{arith}
use Rattle.code.specs.Says.{says_true, says_false}
use Rattle.code.specs.Held.{held}
use Rattle.size.specs.Passed.{passed_on}
use Rattle.promise.specs.Calls.{refuses, no_line}
use Rattle.promise.specs.Admit.{admitted_well, lattice_of}
use Rattle.filler.specs.Filled.{ends_filled, ends_unfilled}
use Rattle.filler.proofs.fill.Goals as goal

pub invariant_of-solve : goal.invariant_of-solve
invariant_of-solve c =
    lattice_of c.in_ok-judge_tile.ensures

pub solve-requires : goal.solve-requires
solve-requires c =
    let w = admitted_well c.in_ok-judge_tile.ensures in
    let h = says_true c.has_both.ensures c.if-not-has_both.false in
    record { takes = w.1; tile_len = w.2; first_lt = omega arith; second_lt = omega arith }

pub add_line-requires : goal.add_line-requires
add_line-requires c =
    let w = admitted_well c.in_ok-judge_tile.ensures in
    let h = says_true c.has_both.ensures c.if-not-has_both.false in
    (omega (arith, w.0.low), w.0.high, w.2, omega arith)

pub add_line-requires-2 : goal.add_line-requires-2
add_line-requires-2 c =
    let w = admitted_well c.in_ok-judge_tile.ensures in
    let h = says_true c.has_both.ensures c.if-not-has_both.false in
    (omega (arith, w.0.low), w.0.high, c.add_line.ensures.tile_len_unchanged ∙ w.2, omega arith)

pub returns-in_err-judge_tile : goal.returns-in_err-judge_tile
returns-in_err-judge_tile c =
    rw (passed_on c.from_residual.ensures.1) (refuses c.in_err-judge_tile.ensures)

pub returns-in_err-solve : goal.returns-in_err-solve
returns-in_err-solve c =
    rw (passed_on c.from_residual-in_err-solve.ensures.1) (ends_unfilled c.args.kind c.args.p c.args.l c.args.first c.args.second (held c.solve.new.x) (held c.solve.new.y) c.args.tile.now
    c.in_ok-judge_tile.ensures (says_true c.has_both.ensures c.if-not-has_both.false) c.in_err-solve.ensures)

pub returns : goal.returns
returns c =
    ends_filled c.args.kind c.args.p c.args.l c.args.first c.args.second
    (held c.solve.new.x) (held c.solve.new.y) c.args.tile.now
    c.in_ok-judge_tile.ensures (says_true c.has_both.ensures c.if-not-has_both.false) _ _ c.in_ok-solve.ensures
    c.add_line.ensures.tile_len_unchanged c.add_line-2.ensures.tile_len_unchanged c.add_line.ensures.added c.add_line-2.ensures.added

pub returns-then-not-has_both : goal.returns-then-not-has_both
returns-then-not-has_both c =
    no_line c.in_ok-judge_tile.ensures (says_false c.has_both.ensures c.if-not-has_both.true)
