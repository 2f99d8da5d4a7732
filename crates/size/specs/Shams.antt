-- Wrong programs, each broken by a theorem: no such program meets its contract. Assumes nothing.
use Rattle.std.specs.Prelude.{◌≡◌, true, false, ℕ}
use Rattle.std.proofs.Common.{arith}
use Rattle.residue.specs.Size.{Size, Allowed}
use Rattle.residue.specs.Test.{up_to}
use Rattle.code.specs.Says.{Says}
use Rattle.code.specs.Kind.{Takes}
use Rattle.code.specs.declared.Kind.{Kind}
use Rattle.code.specs.declared.Kind.TheVariants.{New, Old}
use Rattle.size.specs.Answer.{slope, well, refused, HouseTold, given, Judged, no_slope}
use Rattle.size.specs.Refusal.{number_of}
use Rattle.size.specs.declared.Refusal.TheVariants.{Damaged, BadMark, CutShort, Doubtful, NotGood}
use Rattle.size.specs.Told.{given_size, refused_size, judged_well, judged_no}
use Rattle.house.specs.SizeTest.{size_ok, size_sound, size_complete}
use Rattle.house.specs.SlopeTest.{clear, slope_ok, slope_sound, slope_complete}

-- what the tests decide: which are sizes ..
pub size_5 : Size 5
unfolding size_ok up_to
size_5 = size_sound 5 tt

pub size_7 : Size 7
unfolding size_ok up_to
size_7 = size_sound 7 tt

size_257 : Size 257
unfolding size_ok up_to
size_257 = size_sound 257 tt

no_size_4 : Size 4 → ⊥
unfolding size_ok up_to
no_size_4 = size_complete 4

no_size_9 : Size 9 → ⊥
unfolding size_ok up_to
no_size_9 = size_complete 9

no_size_258 : Size 258 → ⊥
unfolding size_ok up_to
no_size_258 = size_complete 258

-- .. and which slopes they allow
pub at_5_2 : Allowed 5 2
unfolding slope_ok clear
at_5_2 = slope_sound 5 2 size_5.prime tt

at_7_3 : Allowed 7 3
unfolding slope_ok clear
at_7_3 = slope_sound 7 3 size_7.prime tt

at_7_5 : Allowed 7 5
unfolding slope_ok clear
at_7_5 = slope_sound 7 5 size_7.prime tt

pub no_at_7_2 : Allowed 7 2 → ⊥
unfolding slope_ok clear
no_at_7_2 = slope_complete 7 2 size_7.prime

no_at_7_6 : Allowed 7 6 → ⊥
unfolding slope_ok clear
no_at_7_6 = slope_complete 7 6 size_7.prime

-- a call that gives every refusal the number 1; one that gives a bad mark and a short record the same number
pub always_1 : number_of CutShort ≡ 1 → ⊥
always_1 e = omega arith

pub same_number : number_of BadMark ≡ number_of CutShort → ⊥
same_number e = omega arith

-- one that gives a doubtful tile the number of a damaged one
pub doubtful_as_damaged : number_of Doubtful ≡ number_of Damaged → ⊥
doubtful_as_damaged e = omega arith

-- one that counts on from 8, and so says 9 of a restored tile that is not good; and one that says of it what read does
pub counts_on : number_of NotGood ≡ 9 → ⊥
counts_on e = omega arith

pub not_good_as_damaged : number_of NotGood ≡ number_of Damaged → ⊥
not_good_as_damaged e = omega arith

-- a house slope that is always 2
pub always_2 : HouseTold 7 (slope 2) → ⊥
always_2 (given s h) = no_at_7_2 h.allowed

-- a house slope call that refuses the last size
pub last_size_refused : HouseTold 257 (refused 1) → ⊥
last_size_refused t = refused_size t size_257

-- a house slope that is allowed and not the smallest
pub not_smallest : HouseTold 7 (slope 5) → ⊥
not_smallest (given s h) = h.least 3 (omega arith) at_7_3

-- a house slope for 9, which is no prime
pub slope_of_9 : (l : ℕ) → HouseTold 9 (slope l) → ⊥
slope_of_9 l t = no_size_9 (given_size t)

-- a house slope for 258, which is past the last size
pub slope_of_258 : (l : ℕ) → HouseTold 258 (slope l) → ⊥
slope_of_258 l t = no_size_258 (given_size t)

-- a size call that says yes to 4
pub takes_4 : Says true (Size 4) → ⊥
takes_4 s = no_size_4 s

-- a size call that says no to 257
pub refuses_257 : Says false (Size 257) → ⊥
refuses_257 f = f size_257

-- a slope call that does not look at the powers of a new tile, and so says yes to 2 at 7
pub takes_2_at_7 : Says true (Size 7 × Takes New 7 2) → ⊥
takes_2_at_7 t = no_at_7_2 t.1

-- the same, and so it says yes to 2 at 17
pub takes_2_at_17 : Says true (Size 17 × Takes New 17 2) → ⊥
unfolding slope_ok clear
takes_2_at_17 t = slope_complete 17 2 t.0.prime t.1

-- a slope call that says no to 2 at 5, which is allowed there
pub refuses_2_at_5 : Says false (Size 5 × Takes New 5 2) → ⊥
refuses_2_at_5 f = f (size_5, at_5_2)

-- a judgement that refuses the slope before the size
pub slope_first : (k : Kind) → Judged k 9 2 (refused 2) → ⊥
slope_first k (no_slope s f) = no_size_9 s

-- a judgement that takes p - 1 for a slope: its bound is one too high
pub takes_6_at_7 : Judged New 7 6 well → ⊥
takes_6_at_7 t = no_at_7_6 (judged_well t).1

-- the same of an old tile
pub takes_old_6_at_7 : Judged Old 7 6 well → ⊥
takes_old_6_at_7 t = let s = (judged_well t).1 in omega arith

-- a judgement that refuses an allowed slope
pub refuses_3_at_7 : (n : ℕ) → Judged New 7 3 (refused n) → ⊥
refuses_3_at_7 n t = judged_no t (size_7, at_7_3)

-- a judgement that refuses p - 2, the largest allowed at 7: its bound is one too low
pub refuses_5_at_7 : (n : ℕ) → Judged New 7 5 (refused n) → ⊥
refuses_5_at_7 n t = judged_no t (size_7, at_7_5)

-- a judgement that looks at the powers of an old tile's slope too, and so refuses 2 at 7
pub refuses_old_2_at_7 : (n : ℕ) → Judged Old 7 2 (refused n) → ⊥
refuses_old_2_at_7 n t = judged_no t (size_7, (omega arith, omega arith))

-- one that takes a new tile for an old one
pub new_as_old : Judged New 7 2 well → ⊥
new_as_old t = no_at_7_2 (judged_well t).1
