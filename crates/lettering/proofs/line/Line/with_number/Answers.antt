-- `lettering::line::Line::with_number` meets its contract: `io::decimal` makes the digits of SPEC 8.1.
use Rattle.std.proofs.Common.{arith}
use Rattle.std.proofs.lemmas.List.{length-append}
use Rattle.lettering.specs.Decimal.{spelled}
use Rattle.lettering.proofs.line.Line.with_number.Goals as goal

pub with_words-requires : goal.with_words-requires
with_words-requires c =
    let digits = spelled c.decimal-count.new.out c.args.n c.decimal-count.result (omega arith) c.decimal-count.ensures.len c.decimal-count.ensures.digits in
    omega (arith, digits.1)

pub with_words-requires-2 : goal.with_words-requires-2
with_words-requires-2 c =
    let digits = spelled c.decimal-count.new.out c.args.n c.decimal-count.result (omega arith) c.decimal-count.ensures.len c.decimal-count.ensures.digits in
    rw (c.with_words.ensures, length-append) (omega (arith, digits.1))

pub returns-clause-is : goal.returns-clause-is
returns-clause-is c =
    let digits = spelled c.decimal-count.new.out c.args.n c.decimal-count.result (omega arith) c.decimal-count.ensures.len c.decimal-count.ensures.digits in
    rw (c.with_words.ensures, digits.0) at c.with_words-2.ensures

pub returns-clause-length_bound : goal.returns-clause-length_bound
returns-clause-length_bound c =
    let digits = spelled c.decimal-count.new.out c.args.n c.decimal-count.result (omega arith) c.decimal-count.ensures.len c.decimal-count.ensures.digits in
    rw (c.with_words-2.ensures, c.with_words.ensures, length-append, length-append) (omega (arith, digits.1))
