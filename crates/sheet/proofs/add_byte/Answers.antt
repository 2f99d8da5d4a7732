-- `sheet::add_byte` meets its contract.
use Rattle.std.proofs.Common.{arith}
use Rattle.sheet.specs.Make.{byte_added}
use Rattle.sheet.proofs.add_byte.Goals as goal

pub returns : goal.returns
returns c =
    let a = c.args in
    byte_added a.p a.s a.i a.j a.x a.sums.now c.through-t.result c.through-t.ensures.0 (omega arith)
