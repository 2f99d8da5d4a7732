-- SPEC 10: the worked judgements 18 to 24 in one list, all claimed at once. The scan is tile 9, at p 5 and l 2. Each claim is decided by a
-- test that is computed, and the laws that the test is right. Assumes nothing.
use Rattle.std.specs.Prelude.{◌≡◌, refl, List, [], ◌∷◌, ℕ, ◌+◌, ◌-◌, length, get_or}
use Rattle.std.proofs.Common.{arith}
use Rattle.xor.specs.Xor.{◌⊕◌}
use Rattle.xor.specs.Sum.{xor_below}
use Rattle.residue.specs.Test.{up_to}
use Rattle.code.specs.Tile.{tile_length, place, cell, sum}
use Rattle.code.proofs.Lost.{differ_not_agree}
use Rattle.code.specs.OneLine.{number}
use Rattle.code.specs.declared.Kind.TheVariants.{New}
use Rattle.code.specs.declared.Line.{Line}
use Rattle.code.specs.declared.Line.TheVariants.{Row, Column}
use Rattle.size.specs.Answer as size
use Rattle.size.specs.Shams.{size_5, at_5_2}
use Rattle.promise.specs.Answer.{Said, done, refused}
use Rattle.promise.specs.Calls.{Admitted, TwoLengths, Has, JudgeTold}
use Rattle.promise.specs.Admit.{admits}
use Rattle.promise.specs.Once.{judge_told_once}
use Rattle.promise.specs.Decide.{Test, so, both, at_most, equal, good, not_good, outside, off, differing, Each, each, numbered}
use Rattle.promise.specs.Worked.{zeros, tile_4, tile_9, filled_9}

-- a case: a restored tile, and two lines; it is accepted; or the second line is not there, or the tile is not good, or it is good and
-- differs in a cell, which is named
pub data Judging : Type 0 where
  accepted : List ℕ → Line → Line → Judging
  no_line : List ℕ → Line → Line → Judging
  spoiled : List ℕ → Line → Line → Judging
  elsewhere : List ℕ → Line → Line → ℕ → ℕ → Judging

-- judge says this, and nothing else
abbrev pub Judges : List ℕ → Line → Line → Said → Type 0
Judges x a b s = JudgeTold 5 2 tile_9 x a b s × ((t : Said) → JudgeTold 5 2 tile_9 x a b t → t ≡ s)

-- what a case claims
abbrev pub Claim : Judging → Type 0
Claim (accepted x a b) = Judges x a b done
Claim (no_line x a b) = Judges x a b (refused 4)
Claim (spoiled x a b) = Judges x a b (refused 10)
Claim (elsewhere x a b i j) = Judges x a b (refused 11)

-- judgements 18 to 24
abbrev pub cases : List Judging
cases =
    accepted filled_9 (Row 0) (Column 0)
    ∷ elsewhere zeros (Row 0) (Column 0) 1 1
    ∷ spoiled tile_9 (Row 0) (Column 0)
    ∷ spoiled tile_4 (Row 0) (Column 0)
    ∷ elsewhere filled_9 (Row 0) (Row 0) 1 0
    ∷ elsewhere filled_9 (Column 0) (Column 0) 0 1
    ∷ no_line filled_9 (Row 0) (Column 4)
    ∷ []

-- ---- the tests

-- what is rightly said is all that is said
only : (x : List ℕ) (a b : Line) (s : Said) → JudgeTold 5 2 tile_9 x a b s → Judges x a b s
only x a b s r = (r, λ t q. judge_told_once 5 2 tile_9 x a b t s q r)

-- a tile of the right length is admitted
admitted : (x : List ℕ) → length x ≡ tile_length 5 → Admitted New 5 2 (TwoLengths 5 tile_9 x) size.well
admitted x e = admits size_5 at_5_2 (refl, e)

-- both lines are there
abbrev has : (a b : Line) → Test (Has 5 a × Has 5 b)
has a b = both (at_most (number a + 2) 5) (at_most (number b + 2) 5)

-- the test of a case
unfoldable tested : (c : Judging) → Test (Claim c)
tested (accepted x a b) =
    so (both (equal (length x) (tile_length 5)) (both (has a b) (both (good 5 2 x) (outside 5 a b tile_9 x)))) (λ t.
    let lines = t.1.0 in only x a b done (JudgeTold.accepts (admitted x t.0) lines.0 lines.1 t.1.1.0 t.1.1.1))
tested (no_line x a b) =
    so (both (equal (length x) (tile_length 5)) (at_most 4 (number b))) (λ t.
    only x a b (refused 4) (JudgeTold.no_line (admitted x t.0) (λ h. omega (arith, t.1, h.1))))
tested (spoiled x a b) =
    so (both (equal (length x) (tile_length 5)) (both (has a b) (not_good 5 2 x))) (λ t.
    let lines = t.1.0 in only x a b (refused 10) (JudgeTold.not_good (admitted x t.0) lines.0 lines.1 t.1.1))
tested (elsewhere x a b i j) =
    so (both (equal (length x) (tile_length 5)) (both (has a b) (both (good 5 2 x) (both (differing 5 tile_9 x i j) (both (off a i j) (off b i j)))))) (λ t.
    let lines = t.1.0 in
    let here = t.1.1.1 in
    only x a b (refused 11) (JudgeTold.elsewhere (admitted x t.0) lines.0 lines.1 t.1.1.0
    (differ_not_agree {a = a} {b = b} (record { row = i; column = j; here = here.0; off = here.1.0; off_other = here.1.1 }))))

-- THE WORKED JUDGEMENTS: every claim of the list holds
pub judged : Each Claim cases
unfolding each tested good not_good outside differing up_to sum cell place xor_below ◌⊕◌
judged = (each Claim tested cases).shows tt

-- the claim of a case by its number in SPEC 10
pub judgement : (k : ℕ) → Claim (get_or cases (k - 18) (accepted filled_9 (Row 0) (Column 0)))
judgement k = numbered Claim (accepted filled_9 (Row 0) (Column 0)) judged.0 cases judged (k - 18)
