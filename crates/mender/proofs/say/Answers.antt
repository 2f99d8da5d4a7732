-- `mender::say` meets its contract: each case has its own answer.
use Rattle.mender.specs.Mended.{nothing, line}
use Rattle.mender.proofs.say.Goals as goal

pub returns-in-None : goal.returns-in-None
returns-in-None c = rw c.in-None.is nothing

pub returns-in-Some : goal.returns-in-Some
returns-in-Some c = rw c.in-Some.is (line c.name.ensures)
