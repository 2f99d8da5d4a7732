-- `show::along` meets its contract.
use Rattle.std.proofs.Common.{◌-◌, ◌≡◌, length}
use Rattle.show.specs.Going.{Going}
use Rattle.show.proofs.along.Given as goal

abbrev pub invariant-loop-page : goal.invariant-loop-page
invariant-loop-page l = record {
  going : Going l.form l.last l.offset l.initial.window l.initial.walk l.fn.page l.window l.walk l.page.bytes.now;
  used : l.page.used ≡ l.walk.used;
  same : l.page.bytes.ghost_name ≡ l.initial.page.bytes.ghost_name;
  long : length l.window ≡ length l.initial.window;
}

abbrev pub decreases-loop-page : goal.decreases-loop-page
decreases-loop-page l = length l.initial.window - l.walk.place
