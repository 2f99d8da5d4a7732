-- `promise::judge_tile` meets its contract.
use Rattle.std.proofs.Common.{sym, ◌∙◌}
use Rattle.size.specs.Passed.{passed_on}
use Rattle.promise.specs.Calls.{judged, no_length, admitted}
use Rattle.promise.proofs.judge_tile.Goals as goal

pub returns-in_err-judge : goal.returns-in_err-judge
returns-in_err-judge c =
    rw (passed_on c.from_residual.ensures.1) (judged c.in_err-judge.ensures)

pub returns-then-cells-tile_length : goal.returns-then-cells-tile_length
returns-then-cells-tile_length c = admitted c.in_ok-judge.ensures (c.if-cells-tile_length.true ∙ c.tile_length.ensures)

pub returns-else-cells-tile_length : goal.returns-else-cells-tile_length
returns-else-cells-tile_length c = no_length c.in_ok-judge.ensures (λ h. c.if-cells-tile_length.false (h ∙ sym c.tile_length.ensures))
