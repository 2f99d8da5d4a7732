-- `promise::judge_text` meets its contract.
use Rattle.std.proofs.Common.{sym, ◌∙◌}
use Rattle.size.specs.Passed.{passed_on}
use Rattle.promise.specs.Calls.{no_length, admitted}
use Rattle.promise.specs.Admit.{admitted_well, admitted_judged, admitted_more}
use Rattle.promise.proofs.judge_text.Goals as goal

pub returns-in_err-judge_tile : goal.returns-in_err-judge_tile
returns-in_err-judge_tile c =
    rw (passed_on c.from_residual.ensures.1) (admitted_more (λ h. h.0) c.in_err-judge_tile.ensures)

pub text_length-requires : goal.text_length-requires
text_length-requires c = (admitted_well c.in_ok-judge_tile.ensures).0

pub returns-then-letters-text_length : goal.returns-then-letters-text_length
returns-then-letters-text_length c =
    let tile = c.in_ok-judge_tile.ensures in
    admitted (admitted_judged tile) ((admitted_well tile).2, c.if-letters-text_length.true ∙ c.text_length.ensures)

pub returns-else-letters-text_length : goal.returns-else-letters-text_length
returns-else-letters-text_length c =
    no_length (admitted_judged c.in_ok-judge_tile.ensures) (λ h. c.if-letters-text_length.false (h.1 ∙ sym c.text_length.ensures))
