-- How a filling ends: what the chain told, and the changes that were made to the tile, make an outcome that the call's relation allows.
-- Assumes nothing.
use Rattle.std.specs.Prelude.{◌≡◌, refl, List, ℕ, length, Result, Ok, Err}
use Rattle.std.proofs.Common.{arith}
use Rattle.code.specs.Tile.{cell, sum}
use Rattle.code.specs.OneLine.{along}
use Rattle.code.specs.Count.{once_only}
use Rattle.code.specs.Fillings.{fills_once, unsure_several}
use Rattle.code.specs.declared.Kind.{Kind}
use Rattle.code.specs.declared.Line.{Line}
use Rattle.size.specs.Answer as size
use Rattle.size.specs.Refusal.{number_of}
use Rattle.cells.specs.Change.{Added}
use Rattle.chain.specs.Solve.{Solved, none, one, several}
use Rattle.chain.specs.Settled.{both_added, settled_fill, some_fill}
use Rattle.size.specs.Unclear.{refusal_of}
use Rattle.size.specs.declared.Unclear.{Unclear}
use Rattle.promise.specs.Answer.{done, refused}
use Rattle.promise.specs.Calls.{Admitted, TileLength, Looked, Has, FillTold, has_lines}
use Rattle.promise.specs.Admit.{admitted_well, slope_of_lem}

module _ (kind : Kind) (p l : ℕ) (b c : Line) (X Y : ℕ → ℕ) (x : List ℕ) (a : Admitted kind p l (TileLength p x) size.well) (h : Has p b × Has p c) where
  -- what the chain told of the tile's sums
  abbrev pub Told : Result Unit Unclear → Type 0
  Told said = Solved p l b c (sum p 1 (cell p x)) (sum p l (cell p x)) X Y said

  -- there is one filling, and both lines' changes are added; there is none; or there are several
  pub ends_filled : (y z : List ℕ) → Told (Ok tt) → length y ≡ length x → length z ≡ length y → Added p (along b X) x y → Added p (along c Y) y z
      → FillTold kind p l x b c done z
  ends_filled y z (one sure s) ey ez first second =
      has_lines a h.0 h.1 (Looked.one (once_only (fills_once p l x (slope_of_lem a) b c sure)
      (settled_fill p l b c _ _ x z (admitted_well a).2 (λ t q. refl) (λ t q. refl)
      (both_added p l b c _ _ X Y x y z (omega arith) (omega arith) s first second ey ez))) refl)

  pub ends_unfilled : {why : Unclear} → Told (Err why) → FillTold kind p l x b c (refused (number_of (refusal_of why))) x
  ends_unfilled (none f) = has_lines a h.0 h.1 (Looked.none (λ y g. f ((some_fill p l b c x (admitted_well a).2).1 (y, g))))
  ends_unfilled (several unsure s) =
      let y = (some_fill p l b c x (admitted_well a).2).0 s in
      has_lines a h.0 h.1 (Looked.several (unsure_several p l x (slope_of_lem a) b c (omega arith) (omega arith) unsure y.0 y.1))
