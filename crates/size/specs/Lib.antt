-- What the size and slope calls promise, and what the promises settle and rule out.
pub mod Refusal
pub mod Unclear
pub mod Answer
pub mod Told
pub mod Passed
pub mod Total
pub mod Once
pub mod Shams
