-- `cells::text::copy` meets its contract: the bytes are copied to a piece, and from there.
use Rattle.cells.specs.Text.{copied_on}
use Rattle.cells.proofs.text.copy.Goals as goal

pub returns : goal.returns
returns c =
    copied_on c.copy_run.ensures c.copy_run-2.ensures
