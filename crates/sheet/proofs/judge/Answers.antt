-- `sheet::judge` meets its contract: none of the records passed is faulty.
use Rattle.std.proofs.Common.{◌≡◌, arith}
use Rattle.sheet.specs.Sheet.{records}
use Rattle.sheet.specs.Calls.{cut, no_mark, no_place, sound}
use Rattle.sheet.specs.Judge.{sound_none, sound_more}
use Rattle.sheet.proofs.judge.Goals as goal

pub returns-then-sheet-ne0 : goal.returns-then-sheet-ne0
returns-then-sheet-ne0 c =
    rw c.from.ensures (cut (λ e. omega arith))

pub loop-k-init : goal.loop-k-init
loop-k-init c =
    (omega arith, sound_none c.args.p c.args.sheet.now)

pub returns-in_default : goal.returns-in_default
returns-in_default c =
    no_mark c.loop-k.invariant.0 (omega arith) c.loop-k.invariant.1 c.in_default.ensures

pub returns-then-not-has_place : goal.returns-then-not-has_place
returns-then-not-has_place c =
    let read = c.in-Some.ensures in
    no_place c.loop-k.invariant.0 (omega arith) c.loop-k.invariant.1 read.0 (λ placed. c.if-not-has_place.ensures (rw (read.1.0, read.1.1) placed))

pub loop-k-preserved : goal.loop-k-preserved
loop-k-preserved c =
    let read = c.in-Some.ensures in
    (c.loop-k.invariant.0, sound_more c.args.p c.args.sheet.now c.loop-k.k c.loop-k.invariant.1 read.0 (rw (read.1.0, read.1.1) at c.if-not-has_place.ensures))

pub returns : goal.returns
returns c =
    let e : c.loop-k.k ≡ records c.args.sheet.now = omega arith in
    sound c.loop-k.invariant.0 (rw e at c.loop-k.invariant.1)
