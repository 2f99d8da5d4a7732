-- What the chain through two lost lines promises, and the laws behind it.
pub mod Back
pub mod Hand
pub mod Solve
pub mod Sums
pub mod Agree
pub mod Cases
pub mod Settled
