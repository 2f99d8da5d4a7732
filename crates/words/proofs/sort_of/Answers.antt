-- `words::sort_of` meets its contract: the word is held to the two options, and to what begins with two hyphens.
use Rattle.std.proofs.Common.{rules}
use Rattle.std.proofs.lemmas.Slice.Eq.{starts_is}
use Rattle.std.proofs.lemmas.Bool.Decides.{Decides-eqb}
use Rattle.lettering.specs.Line.{ascii}
use Rattle.words.specs.Words.{plain, force, text, unknown}
use Rattle.words.proofs.sort_of.Goals as goal

pub returns-then-eq : goal.returns-then-eq
returns-then-eq c =
    force (search rules)

pub returns-then-eq-2 : goal.returns-then-eq-2
returns-then-eq-2 c =
    text (search rules)

pub returns-then-starts_with : goal.returns-then-starts_with
returns-then-starts_with c =
    let starts = starts_is Decides-eqb c.args.word.now (ascii "--") c.starts_with.result c.starts_with.ensures.value in
    unknown (record { rest = _; is = starts.0 c.if-starts_with.true }) (search rules) (search rules)

pub returns-else-starts_with : goal.returns-else-starts_with
returns-else-starts_with c =
    let starts = starts_is Decides-eqb c.args.word.now (ascii "--") c.starts_with.result c.starts_with.ensures.value in
    plain (λ b. let e = starts.1 b.rest b.is in cc)
