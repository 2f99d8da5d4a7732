-- `counterfrost::cf_inspect` meets its contract: the line that is named is one of the tile's.
use Rattle.counterfrost.specs.Fits.{inspect_fits}
use Rattle.counterfrost.proofs.cf_inspect.Goals as goal

pub of_repair-requires : goal.of_repair-requires
of_repair-requires c =
    inspect_fits c.inspect.ensures
