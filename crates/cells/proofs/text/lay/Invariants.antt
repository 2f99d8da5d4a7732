-- `cells::text::lay` meets its contract. The loop's invariant: the first i rows are copied.
use Prim.Native.Nat.{◌-◌}
use Rattle.cells.specs.Text.{RowsCopied}
use Rattle.cells.proofs.text.lay.Given as goal

abbrev pub invariant-loop-i : goal.invariant-loop-i
invariant-loop-i l = RowsCopied l.i (l.p - 3) l.text (l.p - 3) l.initial.tile (l.p - 1) l.tile
