-- `window::one::correct` meets its contract.
use Rattle.std.proofs.Common.{rules, ◌≡◌, length}
use Rattle.sheet.specs.Answer.{refused}
use Rattle.sheet.specs.Calls.{CorrectTold}
use Rattle.reel.specs.Told.{tile_taken}
use Rattle.std.proofs.lemmas.Result.{err_from_is_err_and}
use Rattle.window.specs.Going.{refused_there, placed}
use Rattle.window.proofs.one.correct.Goals as goal

pub returns-in_err-tile : goal.returns-in_err-tile
returns-in_err-tile c =
    let e = err_from_is_err_and c.from_residual.result c.from_residual.ensures.1 in
    rw (e.1, e.2) (refused_there _ _ _ _ _ _ _ c.in_err-tile.ensures)

pub places-requires-clause-size : goal.places-requires-clause-size
places-requires-clause-size c =
    (tile_taken c.in_ok-tile.ensures).0

pub returns : goal.returns
returns c =
    let told = c.in_ok-tile.ensures in
    placed (λ n. refused n 0) (λ t bytes said new. CorrectTold t.kind t.p t.l bytes _ said new × (length new ≡ length bytes)) _ _ told _ _ _ _ c.places.ensures.start c.places.ensures.end (search rules) (c.correct.ensures, search rules)
