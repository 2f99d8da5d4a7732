-- WHAT A READER MUST BELIEVE: how a tile is restored by its flags (SPEC 7.6). Assumes nothing.
use Rattle.code.specs.declared.Line.{Line}
use Rattle.std.specs.Prelude.{List, ℕ, Option, Some, None}
use Rattle.code.specs.declared.Kind.{Kind}
use Rattle.promise.specs.Answer.{Said}
use Rattle.promise.specs.Calls.{RepairTold, FillTold}

-- SPEC 7.6: RESTORE. A tile without a flag is repaired; one with two is filled in these lines, and one with a lone flag in that line, named
-- twice. What is said, and what the tile becomes, is what repair or fill promises
abbrev pub RestoreTold : Kind → ℕ → ℕ → List ℕ → Option Line → Option Line → Said → List ℕ → Type 0
RestoreTold k p l tile None None said new = RepairTold k p l tile said new
RestoreTold k p l tile None (Some b) said new = FillTold k p l tile b b said new
RestoreTold k p l tile (Some a) None said new = FillTold k p l tile a a said new
RestoreTold k p l tile (Some a) (Some b) said new = FillTold k p l tile a b said new
