-- `window::one::restore` meets its contract.
use Rattle.std.proofs.lemmas.Result.{err_from_is_err_and}
use Rattle.window.specs.Going.{refused_there, within, restores_at}
use Rattle.window.proofs.one.restore.Goals as goal

pub returns-in_err-tile : goal.returns-in_err-tile
returns-in_err-tile c =
    let e = err_from_is_err_and c.from_residual.result c.from_residual.ensures.1 in
    rw (e.1, e.2) (refused_there _ _ _ _ _ _ _ c.in_err-tile.ensures)

pub restore-requires : goal.restore-requires
restore-requires c =
    within c.in_ok-tile.ensures

pub returns : goal.returns
returns c =
    restores_at c.in_ok-tile.ensures c.restore.ensures
