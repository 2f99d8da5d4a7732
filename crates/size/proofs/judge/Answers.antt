-- `size::judge` meets its contract: the table tells a size and its house slope, and the kind any other slope.
use Rattle.std.proofs.Common.{sym, ◌∙◌}
use Rattle.std.proofs.lemmas.Bool.{eqb-false}
use Rattle.size.specs.Answer.{taken, no_slope}
use Rattle.code.specs.Says.{says_true, says_false}
use Rattle.size.specs.Passed.{passed_on}
use Rattle.size.specs.Told.{given_size, house_taken, house_refused}
use Rattle.size.proofs.judge.Goals as goal
use Rattle.size.proofs.judge.Goals.{then-l-house, else-l-house}

pub returns-in_err-house : goal.returns-in_err-house
returns-in_err-house c =
    rw (passed_on c.from_residual.ensures.1) (house_refused c.in_err-house.ensures)

pub returns-then-takes : goal.returns-then-takes
returns-then-takes c =
    elim c.if-l-house.branch [
      | then-l-house w ↦ rw w.if-l-house.true (house_taken c.in_ok-house.ensures)
      | else-l-house w ↦
          let size = given_size c.in_ok-house.ensures in
          taken size (says_true (w.takes.ensures size) (sym w.value-is ∙ c.if-takes.true))
    ]

pub returns-else-takes : goal.returns-else-takes
returns-else-takes c =
    elim c.if-l-house.branch [
      | then-l-house w ↦ absurd (eqb-false _ _ (sym w.value-is ∙ c.if-takes.false) w.if-l-house.true)
      | else-l-house w ↦
          let size = given_size c.in_ok-house.ensures in
          no_slope size (says_false (w.takes.ensures size) (sym w.value-is ∙ c.if-takes.false))
    ]
