-- `judge::judge` meets its contract. Where the lengths are judged to be right the call is admitted; then the tiles have the lines; and then
-- the restored one is good.
use Rattle.std.proofs.Common.{arith}
use Rattle.code.specs.Tile.{Good}
use Rattle.code.specs.Says.{says_true, says_false}
use Rattle.code.specs.declared.Kind.TheVariants.{New}
use Rattle.size.specs.Answer as size
use Rattle.size.specs.Passed.{passed_on}
use Rattle.promise.specs.Calls.{Admitted, TwoLengths, Has, refuses, no_line, not_good, elsewhere, accepts}
use Rattle.promise.specs.Admit.{admitted_well, shape_of}
use Rattle.judge.proofs.judge.Goals as goal

pub returns-in_err-judge_lengths : goal.returns-in_err-judge_lengths
returns-in_err-judge_lengths c =
    rw (passed_on c.from_residual.ensures.1) (refuses c.in_err-judge_lengths.ensures)

pub returns-then-not-has_both : goal.returns-then-not-has_both
returns-then-not-has_both c =
    let a = c.args in
    let lengths : Admitted New a.p a.l (TwoLengths a.p a.scan.now a.restored.now) size.well = c.in_ok-judge_lengths.ensures in
    no_line lengths (says_false c.has_both.ensures c.if-not-has_both.true)

pub is_good-requires : goal.is_good-requires
is_good-requires c =
    let a = c.args in
    let lengths : Admitted New a.p a.l (TwoLengths a.p a.scan.now a.restored.now) size.well = c.in_ok-judge_lengths.ensures in
    shape_of lengths (admitted_well lengths).2.1

pub returns-then-not-is_good : goal.returns-then-not-is_good
returns-then-not-is_good c =
    let a = c.args in
    let lengths : Admitted New a.p a.l (TwoLengths a.p a.scan.now a.restored.now) size.well = c.in_ok-judge_lengths.ensures in
    let lines : Has a.p a.first × Has a.p a.second = says_true c.has_both.ensures c.if-not-has_both.false in
    not_good lengths lines.0 lines.1 (says_false c.is_good.ensures c.if-not-is_good.true)

pub agree_outside-requires : goal.agree_outside-requires
agree_outside-requires c =
    let a = c.args in
    let lengths : Admitted New a.p a.l (TwoLengths a.p a.scan.now a.restored.now) size.well = c.in_ok-judge_lengths.ensures in
    let w = admitted_well lengths in
    record { low = omega (arith, w.0.low); high = w.0.high; size = w.2.0; size_other = w.2.1 }

pub returns-then-not-agree_outside : goal.returns-then-not-agree_outside
returns-then-not-agree_outside c =
    let a = c.args in
    let lengths : Admitted New a.p a.l (TwoLengths a.p a.scan.now a.restored.now) size.well = c.in_ok-judge_lengths.ensures in
    let lines : Has a.p a.first × Has a.p a.second = says_true c.has_both.ensures c.if-not-has_both.false in
    let good : Good a.p a.l a.restored.now = says_true c.is_good.ensures c.if-not-is_good.false in
    elsewhere lengths lines.0 lines.1 good (says_false c.agree_outside.ensures c.if-not-agree_outside.true)

pub returns : goal.returns
returns c =
    let a = c.args in
    let lengths : Admitted New a.p a.l (TwoLengths a.p a.scan.now a.restored.now) size.well = c.in_ok-judge_lengths.ensures in
    let lines : Has a.p a.first × Has a.p a.second = says_true c.has_both.ensures c.if-not-has_both.false in
    let good : Good a.p a.l a.restored.now = says_true c.is_good.ensures c.if-not-is_good.false in
    accepts lengths lines.0 lines.1 good (says_true c.agree_outside.ensures c.if-not-agree_outside.false)
