-- What is shown of a reel: what a reader must believe (`Tally`, `Picture`), the laws behind it, worked cases, and wrong programs.
pub mod Tally
pub mod Picture
pub mod Laws
pub mod Worked
pub mod Shams
