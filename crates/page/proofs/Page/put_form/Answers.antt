-- `page::Page::put_form` meets its contract. The loop's invariant: what stands on the page and what is left of the form make the whole.
use Rattle.std.proofs.Common.{◌∙◌, ap, Option, ℕ}
use Rattle.std.specs.Option.{unwrap_or}
use Rattle.page.specs.Form.{next_number, number_filled, sign_filled_in, all_filled}
use Rattle.page.proofs.Page.put_form.Goals as goal
use Rattle.page.proofs.Page.put_form.Goals.{then-sign-eq64, else-sign-eq64}

pub loop-sign-preserved : goal.loop-sign-preserved
loop-sign-preserved c =
    let args = c.args in
    elim c.if-sign-eq64.branch [
      | then-sign-eq64 w ↦
          let next = next_number c.loop-sign.numbers w.next.new.self w.next.result w.next.ensures.steps in
          let first = w.unwrap_or.ensures ∙ ap (λ (r : Option ℕ). unwrap_or r 0) w.copied.ensures ∙ next.1 in
          rw (w.self-is, w.numbers-is, next.0)
          (number_filled args.form.now args.numbers.now args.self.now c.loop-sign.invariant c.loop-sign-test.true w.if-sign-eq64.true first w.put_number.ensures)
      | else-sign-eq64 w ↦
          rw (w.self-is, w.numbers-is)
          (sign_filled_in args.form.now args.numbers.now args.self.now c.loop-sign.invariant c.loop-sign-test.true w.if-sign-eq64.false w.put.ensures)
    ]

pub returns : goal.returns
returns c =
    let args = c.args in
    all_filled args.form.now args.numbers.now args.self.now c.loop-sign.invariant c.loop-sign-test.false
