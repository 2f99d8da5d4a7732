-- `picture::drawing::begin` meets its contract.
use Rattle.std.proofs.Common.{arith, ◌≤◌, length, length-take}
use Rattle.page.specs.Then.{◌and◌, at_most}
use Rattle.picture.specs.Picture.{begin}
use Rattle.picture.proofs.drawing.begin.Goals as goal

pub returns : goal.returns
unfolding begin
returns c =
    let long : length c.args.line.now ≤ 112 = rw c.text-text.ensures.text at c.text-text.ensures.upper_bound in
    at_most 270 (simp length-take (omega arith)) (c.label.ensures and c.put_form.ensures and (rw c.text-text.ensures.text at c.put.ensures) and c.put-2.ensures)
