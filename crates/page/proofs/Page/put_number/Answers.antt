-- `page::Page::put_number` meets its contract.
use Rattle.std.proofs.Common.{ap, arith, length, ◌∙◌}
use Rattle.page.specs.Then.{at_most}
use Rattle.page.proofs.Page.put_number.Goals as goal

pub returns : goal.returns
returns c =
    let text = c.text.ensures.text ∙ c.digits.ensures.is in
    rw text at (at_most 20 (omega (arith, ap length c.text.ensures.text, c.digits.ensures.length_bound)) c.put.ensures)
