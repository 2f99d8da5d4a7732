-- The tile calls: what a reader must believe (`Answer`, `Calls`), and what follows from it (that the worked cases are as claimed, and what
-- that says of wrong programs, in proofs/).
pub mod Answer
pub mod Calls
pub mod Admit
pub mod Name
pub mod Explain
pub mod Doubt
pub mod Once
pub mod Promise
pub mod Bought
pub mod Carry
pub mod Kinds
pub mod Judged
pub mod Recovered
pub mod Earlier
pub mod Decide
pub mod Worked
pub mod WorkedOld
pub mod WorkedJudged
pub mod WorkedRecovered
