-- `counterfrost::cf_recover` meets its contract: the line that is named is one of the tile's.
use Rattle.counterfrost.specs.Fits.{recover_fits}
use Rattle.counterfrost.proofs.cf_recover.Goals as goal

pub of_repair-requires : goal.of_repair-requires
of_repair-requires c =
    recover_fits c.recover.ensures
