-- `printer::lay` meets its contract. The kind, the size, the slope and the length are judged to be right; then the flags can be carried, so
-- that the record may be laid; of the header's bytes those are copied that count.
use Rattle.std.proofs.Common.{arith}
use Rattle.size.specs.Passed.{passed_on}
use Rattle.header.specs.Record.{Fit}
use Rattle.header.specs.Laid.{fit_fits}
use Rattle.printer.specs.Lay.{refuses, no_line, no_room}
use Rattle.printer.specs.Laying.{taken_fit, ends_laid}
use Rattle.printer.proofs.lay.Goals as goal

pub returns-in_err-judge_tile : goal.returns-in_err-judge_tile
returns-in_err-judge_tile c =
    rw (passed_on c.from_residual.ensures.1) (refuses (rw c.kind.ensures at c.in_err-judge_tile.ensures))

pub returns-then-not-carries : goal.returns-then-not-carries
returns-then-not-carries c =
    no_line (rw c.kind.ensures at c.in_ok-judge_tile.ensures) c.if-not-carries.ensures

pub returns-then-room-end : goal.returns-then-room-end
returns-then-room-end c =
    no_room (rw c.kind.ensures at c.in_ok-judge_tile.ensures) c.if-not-carries.ensures
    (λ fits. omega (arith, fits, c.if-room-end.true, c.length-start.ensures))

pub bytes-bytes-requires : goal.bytes-bytes-requires
bytes-bytes-requires c =
    fit_fits (taken_fit (rw c.kind.ensures at c.in_ok-judge_tile.ensures) c.if-not-carries.ensures (omega (arith, c.well_formed)))

pub returns : goal.returns
returns c =
    let args = c.args in
    let taken = rw c.kind.ensures at c.in_ok-judge_tile.ensures in
    let carried = c.if-not-carries.ensures in
    let fit : Fit args.header args.tile.now = taken_fit taken carried (omega (arith, c.well_formed)) in
    ends_laid args.header c.length-start.result c.bytes-bytes.result c.length-start.ensures c.bytes-bytes.ensures args.tile.now args.room.now
    c.copy_from_slice.new.self c.copy_from_slice-2.new.self taken carried fit (omega (arith, c.if-room-end.false))
    c.copy_from_slice.ensures.after c.copy_from_slice-2.ensures.after
