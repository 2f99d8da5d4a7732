-- `sheet::make` meets its contract: the records passed are made.
use Rattle.std.proofs.Common.{◌≡◌, arith}
use Rattle.sheet.specs.Sheet.{records}
use Rattle.sheet.specs.Make.{made_none, cell_within, made_more, made_totals, made_corrects}
use Rattle.sheet.proofs.make.Goals as goal

pub loop-k-init : goal.loop-k-init
loop-k-init c =
    let a = c.args in made_none a.lattice.p a.lattice.l a.sheet.now a.tile.now

pub bounds-tile-at : goal.bounds-tile-at
bounds-tile-at c =
    let read = rw c.unwrap-next.ensures at c.nth.ensures in
    cell_within c.args.lattice.p c.args.lattice.l _ _ c.loop-k.k _ _ _ _ _ _ (c.requires.sound_below c.loop-k.k (omega arith)).1 read.1 c.place-at.ensures c.requires.tile_len c.loop-k.invariant

pub bounds-tile-at-in-loop-k : goal.bounds-tile-at-in-loop-k
bounds-tile-at-in-loop-k c =
    let read = rw c.unwrap-next.ensures at c.nth.ensures in
    cell_within c.args.lattice.p c.args.lattice.l _ _ c.loop-k.k _ _ _ _ _ _ (c.requires.sound_below c.loop-k.k (omega arith)).1 read.1 c.place-at.ensures c.requires.tile_len c.loop-k.invariant

pub loop-k-preserved : goal.loop-k-preserved
loop-k-preserved c =
    let placed = (c.requires.sound_below c.loop-k.k (omega arith)).1 in
    let read = rw c.unwrap-next.ensures at c.nth.ensures in
    let within = cell_within c.args.lattice.p c.args.lattice.l _ _ c.loop-k.k _ _ _ _ _ _ placed read.1 c.place-at.ensures c.requires.tile_len c.loop-k.invariant in
    made_more c.args.lattice.p c.args.lattice.l c.args.sheet.now c.args.tile.now c.loop-k.k c.loop-k.tile c.loop-k.a c.loop-k.b c.unwrap-next.result.row
    c.unwrap-next.result.column c.unwrap-next.result.was c.unwrap-next.result.is c.place-at.result _ _ placed read.1 (read.2, read.3) c.place-at.ensures
    within c.loop-k.invariant c.add_byte.ensures c.add_byte-in-loop-k.ensures

pub settle-requires-clause-a_value : goal.settle-requires-clause-a_value
settle-requires-clause-a_value c = made_totals c.args.lattice.p c.args.lattice.l _ _ _ _ c.loop-k.a c.loop-k.b c.loop-k.invariant

pub returns : goal.returns
returns c =
    let e : c.loop-k.k ≡ records c.args.sheet.now = omega arith in
    made_corrects c.args.lattice.p c.args.sheet.now c.requires.sound_below c.args.lattice.l c.args.tile.now c.loop-k.tile _ c.loop-k.a c.loop-k.b
    c.args.lattice.slope c.requires.tile_len (rw e at c.loop-k.invariant) c.settle.ensures
