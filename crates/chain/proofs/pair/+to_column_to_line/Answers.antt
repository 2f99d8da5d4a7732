-- The cycle of calls {to_column, to_line}. What each fills, and that it touches nothing else, is one law of `Hand`.
use Rattle.std.proofs.Common.{refl, arith}
use Rattle.chain.specs.Hand.{line_turn, column_turn}
use Rattle.chain.proofs.pair.+to_column_to_line.Goals as goal

pub to_column-to_line-requires : goal.to_column-to_line-requires
to_column-to_line-requires t c =
    let pre = c.requires in (
      omega (arith, c.decreases),
      record {
        high = pre.high;
        column = pre.column;
        line = pre.line;
        base_lt = pre.base_lt;
        weight_lt = pre.weight_lt;
        back_lt = pre.back_lt;
        at = c.before-i.ensures.1;
      },
    )

pub to_column-returns : goal.to_column-returns
to_column-returns t c =
    column_turn _ _ _ _ _ _ _ _ _ _ _ (omega (arith, c.requires.column)) c.args.x.now _ _ _ _ c.if-unfilled-eq0.false refl c.before-i.ensures.0
    (omega arith) c.to_line.ensures

pub to_line-to_column-requires : goal.to_line-to_column-requires
to_line-to_column-requires t c =
    let pre = c.requires in (
      omega (arith, c.decreases),
      record {
        high = pre.high;
        column = pre.column;
        line = pre.line;
        base_lt = pre.base_lt;
        weight_lt = pre.weight_lt;
        back_lt = pre.back_lt;
        at = c.before-k.ensures.1;
      },
    )

pub to_line-returns : goal.to_line-returns
to_line-returns t c =
    line_turn _ _ _ _ _ _ _ _ _ _ _ (omega (arith, c.requires.column)) _ c.args.y.now _ _ _ c.if-unfilled-eq0.false c.step-t.ensures.is
    c.before-k.ensures.0 (omega arith) c.to_column.ensures
