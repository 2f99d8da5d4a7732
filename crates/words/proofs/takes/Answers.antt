-- `words::takes` meets its contract: what a command takes is taken behind its name, and nothing else but plain words.
use Rattle.std.proofs.Common.{Bool, true, false}
use Rattle.std.specs.Prelude.{Some}
use Rattle.code.specs.Says.{Says}
use Rattle.words.specs.declared.Verb.{Verb}
use Rattle.words.specs.declared.Sort.{Sort}
use Rattle.words.specs.Words.{Takes, plain, TakesBehind, any_plain, its_own}
use Rattle.words.proofs.takes.Goals as goal

taken : {v : Verb} {s : Sort} → TakesBehind (Some v) (Some s) → Takes v s
taken any_plain = plain
taken (its_own t) = t

said_behind : (r : Bool) (v : Verb) (s : Sort) → Says r (Takes v s) → Says r (TakesBehind (Some v) (Some s))
said_behind true v s t = its_own t
said_behind false v s none = λ t. none (taken t)

pub returns-in-Some-verb : goal.returns-in-Some-verb
returns-in-Some-verb c = rw (c.in-Some.is, c.in-Some-verb.is) (said_behind c.takes.result _ _ c.takes.ensures)

pub returns-in-Plain : goal.returns-in-Plain
returns-in-Plain c = rw (c.in-Some.is, c.in-Plain.is) any_plain
