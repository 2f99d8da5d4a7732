-- `words::line` meets its contract: `row:` or `column:` is told by its signs, and the number by what stands behind.
use Rattle.std.proofs.Common.{rules, ◌≡◌}
use Rattle.std.specs.Option.{option_map}
use Rattle.std.specs.Result.{result_ok}
use Rattle.std.proofs.lemmas.Slice.Eq.{strip_prefix_is}
use Rattle.std.proofs.lemmas.Bool.Decides.{Decides-eqb}
use Rattle.code.specs.declared.Line.TheVariants.{Row, Column}
use Rattle.lettering.specs.Line.{ascii}
use Rattle.words.specs.Lines.{row_or_none, column_or_none, neither}
use Rattle.words.proofs.line.Goals as goal

pub returns-in-Some : goal.returns-in-Some
returns-in-Some c =
    let is = strip_prefix_is Decides-eqb c.args.word.now (ascii "row:") c.strip_prefix.result c.strip_prefix.ensures.cases in
    let e : c.map.result ≡ option_map (λ n. Row n) (result_ok c.number.result) = search rules in
    row_or_none _ _ c.number.result (rw c.in-Some.is at is) c.number.ensures _ e

pub returns-in-Some-strip_prefix : goal.returns-in-Some-strip_prefix
returns-in-Some-strip_prefix c =
    let is = strip_prefix_is Decides-eqb c.args.word.now (ascii "column:") c.strip_prefix-2.result c.strip_prefix-2.ensures.cases in
    let e : c.map-in-Some-strip_prefix.result ≡ option_map (λ n. Column n) (result_ok c.number-in-Some-strip_prefix.result) = search rules in
    column_or_none _ _ c.number-in-Some-strip_prefix.result (rw c.in-Some-strip_prefix.is at is) c.number-in-Some-strip_prefix.ensures _ e

pub returns : goal.returns
returns c =
    let row = strip_prefix_is Decides-eqb c.args.word.now (ascii "row:") c.strip_prefix.result c.strip_prefix.ensures.cases in
    let column = strip_prefix_is Decides-eqb c.args.word.now (ascii "column:") c.strip_prefix-2.result c.strip_prefix-2.ensures.cases in
    neither _ (λ b. rw c.in_default.is at row b.rest b.is) (λ b. rw c.in_default-strip_prefix.is at column b.rest b.is)
