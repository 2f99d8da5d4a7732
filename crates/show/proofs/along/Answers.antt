-- `show::along` meets its contract.
use Rattle.std.proofs.Common.{rules, arith, ap}
use Rattle.reel.specs.Walks.{moves_on}
use Rattle.window.specs.Going.{looked_tile}
use Rattle.show.specs.Show.{full, over}
use Rattle.show.specs.Going.{going_few, going_on, along_told}
use Rattle.show.specs.declared.Walk.{Walk}
use Rattle.show.proofs.along.Goals as goal

pub past-walk-requires-clause-below : goal.past-walk-requires-clause-below
past-walk-requires-clause-below c =
    let kept = c.loop-page.invariant in
    going_few kept.going (looked_tile c.in-Ok.ensures) (omega (arith, kept.long, c.well_formed.1.0.0))

pub loop-page-smaller : goal.loop-page-smaller
loop-page-smaller c =
    omega (arith, moves_on (looked_tile c.in-Ok.ensures), ap (λ (x : Walk). x.place) c.past-walk.ensures.past.is, c.loop-page.invariant.long)

pub loop-page-preserved : goal.loop-page-preserved
loop-page-preserved c =
    let kept = c.loop-page.invariant in
    record {
      going = going_on kept.going (omega (arith, c.loop-page-test.true, c.left.ensures, kept.used)) (looked_tile c.in-Ok.ensures) c.past-walk.ensures.past;
      used = c.past-walk.ensures.used;
      same = search rules;
      long = search rules;
    }

pub returns-in-Err : goal.returns-in-Err
returns-in-Err c =
    let kept = c.loop-page.invariant in
    let all = along_told kept.going (over (omega (arith, c.loop-page-test.true, c.left.ensures, kept.used, kept.going.shown.same)) c.in-Err.ensures) in
    search (rules, all)

pub returns : goal.returns
returns c =
    let kept = c.loop-page.invariant in
    let all = along_told kept.going (full (omega (arith, c.loop-page-test.false, c.left.ensures, kept.used, kept.going.shown.same))) in
    search (rules, all)
