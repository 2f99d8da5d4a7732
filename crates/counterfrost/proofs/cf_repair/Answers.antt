-- `counterfrost::cf_repair` meets its contract: the line that is named is one of the tile's.
use Rattle.counterfrost.specs.Fits.{repair_fits}
use Rattle.counterfrost.proofs.cf_repair.Goals as goal

pub of_repair-requires : goal.of_repair-requires
of_repair-requires c =
    repair_fits c.repair.ensures
