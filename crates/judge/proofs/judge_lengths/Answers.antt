-- `judge::judge_lengths` meets its contract.
use mathlib.Core.Path.{sym, ◌∙◌}
use Rattle.size.specs.Passed.{passed_on}
use Rattle.promise.specs.Calls.{no_length, admitted}
use Rattle.promise.specs.Admit.{admitted_well, admitted_judged, admitted_more}
use Rattle.judge.proofs.judge_lengths.Goals as goal

pub returns-in_err-judge_tile : goal.returns-in_err-judge_tile
returns-in_err-judge_tile c =
    rw (passed_on c.from_residual.ensures.1) (admitted_more (λ h. h.0) c.in_err-judge_tile.ensures)

pub returns-then-restored-scan : goal.returns-then-restored-scan
returns-then-restored-scan c =
    let scan = c.in_ok-judge_tile.ensures in
    let size = (admitted_well scan).2 in
    admitted (admitted_judged scan) (size, c.if-restored-scan.true ∙ size)

pub returns-else-restored-scan : goal.returns-else-restored-scan
returns-else-restored-scan c =
    no_length (admitted_judged c.in_ok-judge_tile.ensures) (λ h. c.if-restored-scan.false (h.1 ∙ sym h.0))
