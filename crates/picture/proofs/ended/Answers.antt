-- `picture::ended` meets its contract: each form puts what it shows on an empty page.
use Rattle.std.proofs.Common.{rules, arith}
use Rattle.page.specs.Page.{PutOn}
use Rattle.page.specs.Then.{◌and◌, at_most}
use Rattle.picture.specs.Laws.{line_put}
use Rattle.picture.specs.Picture.{ended_shown}
use Rattle.picture.proofs.ended.Goals as goal
use Rattle.picture.proofs.ended.Goals.{in-Lines, in-Squares, in-Signs}

pub returns : goal.returns
unfolding ended_shown
returns c =
    let all : PutOn 4096 c.new-page.result (ended_shown c.args.form c.args.tally) c.match-form.page =
    elim c.match-form.branch [
      | in-Lines w ↦
          rw (w.in-Lines.is, w.page-is)
          (at_most 4096 (omega arith) (line_put w.text.ensures.text w.text.ensures.upper_bound w.end_line.ensures w.put.ensures))
      | in-Squares w ↦ rw (w.in-Squares.is, w.page-is) (at_most 4096 (omega arith) w.foot.ensures)
      | in-Signs w ↦
          let line = line_put w.text-in-Signs.ensures.text w.text-in-Signs.ensures.upper_bound w.end_line-in-Signs.ensures w.put-in-Signs.ensures in
          rw (w.in-Signs.is, w.page-is) (at_most 4096 (omega arith) (w.end.ensures and w.legend.ensures and line))
    ]
    in
    search (rules, all)
