-- `picture::stopped` meets its contract: each form puts what it shows on an empty page.
use Rattle.std.proofs.Common.{rules, arith}
use Rattle.size.specs.Refusal.{number_of}
use Rattle.page.specs.Page.{PutOn}
use Rattle.page.specs.Then.{◌and◌, at_most}
use Rattle.picture.specs.Laws.{line_put}
use Rattle.picture.specs.Picture.{stopped_shown}
use Rattle.picture.proofs.stopped.Goals as goal
use Rattle.picture.proofs.stopped.Goals.{in-Lines, in-Squares, in-Signs}

pub returns : goal.returns
unfolding stopped_shown
returns c =
    let all : PutOn 4096 c.new-page.result (stopped_shown c.args.form c.args.tally (number_of c.args.refusal) c.args.offset) c.match-form.page =
    elim c.match-form.branch [
      | in-Lines w ↦
          rw (w.in-Lines.is, w.page-is)
          (at_most 4096 (omega arith) (line_put w.text.ensures.text w.text.ensures.upper_bound w.stopped_line.ensures w.put.ensures))
      | in-Squares w ↦ rw (w.in-Squares.is, w.page-is) (at_most 4096 (omega arith) (w.stop.ensures and w.foot.ensures))
      | in-Signs w ↦
          let line = line_put w.text-in-Signs.ensures.text w.text-in-Signs.ensures.upper_bound w.stopped_line-in-Signs.ensures w.put-in-Signs.ensures in
          rw (w.in-Signs.is, w.page-is) (at_most 4096 (omega arith) (w.stop-in-Signs.ensures and w.legend.ensures and line))
    ]
    in
    search (rules, all)
