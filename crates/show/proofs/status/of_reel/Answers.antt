-- `show::status::of_reel` meets its contract.
use Rattle.show.specs.Status.{well, hurt, stopped}
use Rattle.show.proofs.status.of_reel.Goals as goal

pub returns-then-not-ended : goal.returns-then-not-ended
returns-then-not-ended c = rw c.if-not-ended.true stopped

pub returns-then-is_well : goal.returns-then-is_well
returns-then-is_well c = rw c.if-not-ended.false (well c.if-is_well.ensures)

pub returns-else-is_well : goal.returns-else-is_well
returns-else-is_well c = rw c.if-not-ended.false (hurt c.if-is_well.ensures)
