-- `lettering::line::digits` meets its contract: `io::decimal` makes the digits of SPEC 8.1.
use Rattle.std.proofs.Common.{arith}
use Rattle.lettering.specs.Decimal.{spelled}
use Rattle.lettering.proofs.line.digits.Goals as goal

pub returns-clause-is : goal.returns-clause-is
returns-clause-is c =
    let digits = spelled c.decimal-count.new.out c.args.n c.decimal-count.result (omega arith) c.decimal-count.ensures.len c.decimal-count.ensures.digits in
    rw (c.new.ensures, digits.0) at c.with_words.ensures

pub returns-clause-length_bound : goal.returns-clause-length_bound
returns-clause-length_bound c =
    let digits = spelled c.decimal-count.new.out c.args.n c.decimal-count.result (omega arith) c.decimal-count.ensures.len c.decimal-count.ensures.digits in
    rw (c.with_words.ensures, c.new.ensures) digits.1
