-- SPEC 10: that the worked tiles 1 to 10, and the others that stand with them in `Worked` of specs/, do what is claimed of them there.
-- Assumes nothing.
use Rattle.std.specs.Prelude.{◌≡◌, refl, List, ℕ, ◌-◌, get_or}
use Rattle.std.proofs.Common.{ap, arith}
use Rattle.xor.specs.Xor.{◌⊕◌}
use Rattle.xor.specs.Sum.{xor_below}
use Rattle.code.specs.Tabulate.{tabulate}
use Rattle.code.specs.Tile.{place, cell, sum, text_from, text_of}
use Rattle.residue.specs.Test.{up_to}
use Rattle.code.specs.Margin.{TwoGood, EqualOutsideThree}
use Rattle.code.specs.declared.Line.TheVariants.{Column}
use Rattle.promise.specs.Decide.{both, equals, same, good, not_good, outside, differing, filling, more_bytes, one_byte, none, no_line, uncrossed, no_filling, some, Each, each, numbered}
use Rattle.promise.specs.Worked.{Claim, writes, spoiled, cases, others, mends, filled, admitted_tile, writing, tested, zeros, text_1, tile_1, changed_3}

-- what the tests show
computed : Each Claim cases × Each Claim others
unfolding each tested mends filled admitted_tile writing some same good not_good outside differing filling more_bytes one_byte none no_line uncrossed no_filling up_to sum cell place text_from text_of tabulate xor_below ◌⊕◌
computed = (both (each Claim tested cases) (each Claim tested others)).shows tt

-- THE WORKED TILES: every claim of the list holds
pub worked : Each Claim cases
worked = computed.0

-- and every claim of the others
pub others_worked : Each Claim others
others_worked = computed.1

-- the claim of a case by its number in SPEC 10
pub claimed : (k : ℕ) → Claim (get_or cases (k - 1) (writes text_1 tile_1 0))
claimed k = numbered Claim (writes text_1 tile_1 0) worked.0 cases worked (k - 1)

-- and of the others, from 1 in the order in which they stand above
pub other_claimed : (k : ℕ) → Claim (get_or others (k - 1) (spoiled changed_3))
other_claimed k = numbered Claim (spoiled changed_3) others_worked.0 others others_worked (k - 1)

-- SPEC 10, the margin: zeros and tile 1 are good and different, and agree outside columns 0, 2 and 3
pub worked_pair : TwoGood 5 2 zeros tile_1 × EqualOutsideThree 5 (Column 0) (Column 2) (Column 3) zeros tile_1
unfolding good up_to sum cell place xor_below ◌⊕◌
worked_pair = (
  record {
    size = refl;
    size_other = refl;
    good = (good 5 2 zeros).shows tt;
    good_other = (good 5 2 tile_1).shows tt;
    apart = λ e. let q : get_or zeros 0 0 ≡ get_or tile_1 0 0 = ap (λ (x : List ℕ). get_or x 0 0) e in omega arith;
  },
  λ i j hi hj d e f. let q : j ≡ 1 = omega arith in rw q ((equals (λ r. cell 5 zeros r 1) (λ r. cell 5 tile_1 r 1) 4).shows tt i hi),
)
