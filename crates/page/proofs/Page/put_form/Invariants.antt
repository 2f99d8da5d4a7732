-- `page::Page::put_form` meets its contract. The loop's invariant: what stands on the page and what is left of the form make the whole.
use Rattle.page.specs.Form.{Filling}
use Rattle.page.proofs.Page.put_form.Given as goal

abbrev pub invariant-loop-sign : goal.invariant-loop-sign
invariant-loop-sign l = Filling l.form l.fn.numbers l.initial.self l.self l.numbers.rest.now l.sign-index
