-- WHAT A READER MUST BELIEVE: what the functions of the struct `Reader` promise, a reel's bytes together with a place (SPEC 7.4). What
-- stands at its place and that tile's bytes are promised as `next` and `bytes` promise them. Assumes nothing.
use Rattle.std.specs.Prelude.{◌≡◌, List, ℕ}
use Rattle.std.specs.Borrow.{Bor}
use Rattle.reel.specs.Answer.{Said}
use Rattle.reel.specs.Calls.{NextTold, AfterTold}
use Rattle.reel.specs.declared.reader.Reader.{Reader}

-- SPEC 7.4: a new reader has the reel that was lent, and is at 0
abbrev pub Begins : Bor (List ℕ) → Reader → Type 0
Begins reel reader = (reader.reel ≡ reel) × (reader.at ≡ 0)

-- SPEC 7.4: a step keeps the reel, and takes the reader to the next record, that of 7.3; where no tile stands it stays
abbrev pub MovesTo : Reader → Reader → Type 0
MovesTo reader on = (on.reel ≡ reader.reel) × AfterTold reader.reel.now reader.at on.at

-- SPEC 7.4: what a new reader finds after one step
pub record SecondTold (reel : List ℕ) (said : Said) : Type 0 where
  pub at : ℕ
  pub behind : AfterTold reel 0 at
  pub told : NextTold reel at said
