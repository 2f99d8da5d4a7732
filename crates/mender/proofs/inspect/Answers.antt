-- `mender::inspect` meets its contract.
use Rattle.std.proofs.Common.{arith}
use Rattle.size.specs.Passed.{passed_on}
use Rattle.promise.specs.Calls.{refuses}
use Rattle.promise.specs.Admit.{admitted_well, lattice_of}
use Rattle.mender.specs.Mended.{told_unclear, repair_ends}
use Rattle.mender.proofs.inspect.Goals as goal

pub returns-in_err-judge_tile : goal.returns-in_err-judge_tile
returns-in_err-judge_tile c =
    rw (passed_on c.from_residual.ensures.1) (record { tile = _; told = refuses c.in_err-judge_tile.ensures })

pub invariant_of-find : goal.invariant_of-find
invariant_of-find c =
    lattice_of c.in_ok-judge_tile.ensures

pub find-requires : goal.find-requires
find-requires c =
    let w = admitted_well c.in_ok-judge_tile.ensures in record { takes = w.1; tile_len = w.2 }

pub returns-in_err-found : goal.returns-in_err-found
returns-in_err-found c =
    rw (passed_on c.from_residual-in_err-found.ensures.1) (record { tile = _; told = repair_ends _ _ _ _ _ c.in_ok-judge_tile.ensures c.in_err-found.ensures (told_unclear _ _ _) })

pub say-requires : goal.say-requires
say-requires c =
    let w = admitted_well c.in_ok-judge_tile.ensures in
    (omega (arith, w.0.low), w.0.high)

pub returns : goal.returns
returns c = record { tile = _; told = repair_ends _ _ _ _ _ c.in_ok-judge_tile.ensures c.in_ok-found.ensures c.say.ensures }
