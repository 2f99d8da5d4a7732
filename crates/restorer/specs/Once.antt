-- The contract settles the answer and the bytes: two outcomes that are allowed of one tile with its flags are the same. Assumes nothing.
use Rattle.code.specs.declared.Line.{Line}
use Rattle.std.specs.Prelude.{◌≡◌, refl, List, ℕ, Option, Some, None, Result, Ok, Err}
use Rattle.std.proofs.Common.{sym, ap, ◌∙◌}
use Rattle.code.specs.declared.Kind.{Kind}
use Rattle.size.specs.Once.{refusal_of, back}
use Rattle.promise.specs.Answer.{Said, done, clean, cell, column, row, refused, restore_said}
use Rattle.promise.specs.Once.{Single, repair_told_once, fill_told_once}
use Rattle.size.specs.declared.Refusal.{Refusal}
use Rattle.promise.specs.declared.Repaired.TheVariants as repair
use Rattle.promise.specs.declared.Restored.{Restored}
use Rattle.promise.specs.declared.Restored.TheVariants as restore
use Rattle.restorer.specs.Restore.{RestoreTold}

-- whatever the flags, two outcomes are the same, as those of fill and of repair are
pub restore_told_once : (k : Kind) (p l : ℕ) (tile : List ℕ) (first second : Option Line) → Single (RestoreTold k p l tile first second)
restore_told_once k p l tile None None = repair_told_once k p l tile
restore_told_once k p l tile None (Some b) = fill_told_once k p l tile b b
restore_told_once k p l tile (Some a) None = fill_told_once k p l tile a a
restore_told_once k p l tile (Some a) (Some b) = fill_told_once k p l tile a b

-- the answer that says s
abbrev answer_of : Said → Result Restored Refusal
answer_of done = Ok restore.Filled
answer_of clean = Ok (restore.Repaired repair.Clean)
answer_of (cell r c) = Ok (restore.Repaired (repair.Cell r c))
answer_of (column c) = Ok (restore.Repaired (repair.Column c))
answer_of (row r) = Ok (restore.Repaired (repair.Row r))
answer_of (refused n) = Err (refusal_of n)

-- that of what an answer says is the answer
answer_back : (a : Result Restored Refusal) → answer_of (restore_said a) ≡ a
answer_back (Ok (restore.Repaired repair.Clean)) = refl
answer_back (Ok (restore.Repaired (repair.Cell r c))) = refl
answer_back (Ok (restore.Repaired (repair.Column c))) = refl
answer_back (Ok (restore.Repaired (repair.Row r))) = refl
answer_back (Ok restore.Filled) = refl
answer_back (Err r) = ap Err (back r)

-- so no two answers say the same
pub restore_said_once : (a b : Result Restored Refusal) → restore_said a ≡ restore_said b → a ≡ b
restore_said_once a b e = sym (answer_back a) ∙ ap answer_of e ∙ answer_back b

-- and a tile with its flags has one right answer, and becomes one tile
pub restore_once : (k : Kind) (p l : ℕ) (tile : List ℕ) (first second : Option Line) (a b : Result Restored Refusal) (x y : List ℕ)
    → RestoreTold k p l tile first second (restore_said a) x → RestoreTold k p l tile first second (restore_said b) y → (a ≡ b) × (x ≡ y)
restore_once k p l tile first second a b x y t u =
    let e = restore_told_once k p l tile first second (restore_said a) (restore_said b) x y t u in (restore_said_once a b e.0, e.1)
