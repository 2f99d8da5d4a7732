-- `words::verb_of` meets its contract: of the commands the first is taken whose name is the word.
use Rattle.std.proofs.Common.{rules, tests}
use Rattle.std.proofs.lemmas.Iterator.{YieldsList-from_slice}
use Rattle.std.proofs.lemmas.Iterator.Consumers.{YieldsList-from_copied}
use Rattle.std.proofs.lemmas.Iterator.Search.{find_from_yields_List}
use Rattle.std.specs.Str.{bytes_eq}
use Rattle.words.specs.Words.{name_of}
use Rattle.words.specs.Names.{commands, found}
use Rattle.words.proofs.verb_of.Goals as goal

pub returns : goal.returns
returns c =
    found
    c.args.word.now
    c.find.result
    (find_from_yields_List
    (λ v. bytes_eq c.args.word.now (name_of v))
    _
    _
    c.find.result
    c.find.ensures.ran
    (YieldsList-from_copied (YieldsList-from_slice commands cc))
    (λ x b q k. search (rules, tests)))
