-- `search::line::Scan::explaining` meets its contract. The outer loop's invariant: along no line passed do the sums agree, and `place` is where line
-- n begins. The inner loop's: t is k lines after the first, u is the place that belongs to it, and the sums agree at the lines passed. Assumes
-- nothing.
use mathlib.Core.Path.{◌≡◌, sym, ap, ◌∙◌}
use Prim.Native.Nat.{◌+◌, ◌*◌, ◌%◌}
use native.Mathlib.Omega.{arith}
use borrow.Author.Count.{below_more}
use Rattle.residue.specs.Remainder.{same}
use Rattle.code.specs.Tile.{cell, sum}
use Rattle.code.specs.Held.{held}
use Rattle.walk.specs.Fill.{begins, carried}
use Rattle.search.specs.Line.{Fits, fits_more, not_fits, fits_all, place_next}
use Rattle.search.proofs.line.Scan.explaining.Goals as goal

pub lines-preserved : goal.lines-preserved
lines-preserved c =
    let loop = c.loop-k in
    let lines = c.lines in
    let a = c.args in
    let s = a.self.now in
    let A = sum s.p 1 (cell s.p s.tile.now) in
    let S = held s.sums.now in record {
      place_lt = c.step-place.ensures.lt;
      begins = carried s.p (a.weight * s.begin) a.shift lines.n lines.place _ lines.invariant.begins c.step-place.ensures;
      passed = below_more (λ j. Fits s.p a.shift a.weight A S j → ⊥) lines.n lines.invariant.passed
          (not_fits s.p a.shift a.weight A S lines.n loop.t loop.u (omega arith) loop.invariant.belongs
          (λ e. c.if-sums-u.true (e ∙ sym c.sum_after.ensures)));
    }

pub loop-k-preserved : goal.loop-k-preserved
loop-k-preserved c =
    let loop = c.loop-k in
    let n = c.lines.n in
    let a = c.args in
    let s = a.self.now in
    let A = sum s.p 1 (cell s.p s.tile.now) in
    let S = held s.sums.now in record {
      line_lt = c.step-t.ensures.lt;
      place_lt = c.step-u.ensures.lt;
      line = carried s.p s.begin 1 loop.k loop.t _ loop.invariant.line c.step-t.ensures;
      belongs = place_next s.p a.shift a.weight n loop.t _ loop.u _ loop.invariant.belongs c.step-t.ensures c.step-u.ensures;
      agree = fits_more s.p a.shift a.weight s.begin A S n loop.k loop.t loop.u loop.invariant.line loop.invariant.belongs
          (c.if-sums-u.false ∙ c.sum_after.ensures) loop.invariant.agree;
    }

pub returns-after-loop-k : goal.returns-after-loop-k
returns-after-loop-k c =
    let a = c.args in
    let s = a.self.now in
    let all : c.loop-k.k ≡ s.p = omega arith in
    (omega arith, fits_all s.p a.shift a.weight s.begin (sum s.p 1 (cell s.p s.tile.now)) (held s.sums.now) c.lines.n (rw all at c.loop-k.invariant.agree))

pub returns-after-lines : goal.returns-after-lines
returns-after-lines c =
    λ k h. c.lines.invariant.passed k (omega arith)

pub sum_after-requires-clause-here_value : goal.sum_after-requires-clause-here_value
sum_after-requires-clause-here_value c =
    let s = c.args.self.now in
    let A = sum s.p 1 (cell s.p s.tile.now) in
    let loop = c.loop-k in
    let first : s.begin ≡ (s.begin + 1 * 0) % s.p = begins _ _ 1 s.begin_lt in (
      λ e. c.line_sum-here.ensures ∙ ap A (first ∙ same s.p (omega (arith, e)) ∙ sym loop.invariant.line),
      λ e. c.line_sum-next.ensures ∙ ap A (carried s.p s.begin 1 0 s.begin _ first c.step.ensures ∙ same s.p (omega (arith, e)) ∙ sym loop.invariant.line),
    )
