-- `size::house_slope` meets its contract: `house::slope` tells the house slope, or nothing where p is no size.
use Rattle.size.specs.Told.{told}
use Rattle.size.proofs.house_slope.Goals as goal

pub returns : goal.returns
returns c = rw c.ok_or.ensures.value (told _ c.slope.ensures)
