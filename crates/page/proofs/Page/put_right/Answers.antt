-- `page::Page::put_right` meets its contract.
use Rattle.std.proofs.Common.{arith, ap, refl, length, length-take, length-drop, ◌∙◌}
use Rattle.page.specs.Then.{◌and◌, at_most, aligned_at_most}
use Rattle.page.proofs.Page.put_right.Goals as goal

pub returns : goal.returns
returns c =
    let is = c.text-digits.ensures.text ∙ c.digits-number.ensures.is in
    let text = aligned_at_most c.args.n _ c.min.result _ is refl c.min.ensures in
    rw text at (at_most 20 (simp (length-take, length-drop) (omega (arith, ap length c.text-digits.ensures.text, c.digits-number.ensures.length_bound))) (c.put.ensures and c.put-2.ensures))
