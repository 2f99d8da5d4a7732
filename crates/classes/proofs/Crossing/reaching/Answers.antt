-- `classes::Crossing::reaching` meets its contract.
use mathlib.Core.Path.{sym, ap, ◌∙◌}
use native.Mathlib.Omega.{arith}
use Rattle.code.specs.Held.{held}
use Rattle.classes.specs.Many.{no_crossed, one_crossed}
use Rattle.classes.specs.Many.{crossed_no}
use Rattle.classes.proofs.Crossing.reaching.Goals as goal

pub returns-then-self-first : goal.returns-then-self-first
returns-then-self-first c =
    one_crossed c.requires.reaches_all
    (sym (ap (held c.args.self.now.a.now) c.through-first.ensures.0) ∙ c.if-self-first.true ∙ ap (held c.args.self.now.b.now) c.through-second.ensures.0)

pub returns-else-self-first : goal.returns-else-self-first
returns-else-self-first c =
    no_crossed
    (crossed_no c.args.self.now.lattice.p c.args.self.now.lattice.l _ _ c.args.self.now.lattice.slope c.args.self.now.column c.args.self.now.row (omega arith) (omega arith)
    (λ e. c.if-self-first.false (ap (held c.args.self.now.a.now) c.through-first.ensures.0 ∙ e ∙ sym (ap (held c.args.self.now.b.now) c.through-second.ensures.0))))
