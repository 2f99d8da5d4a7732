-- The listing: what a reader must believe (`Listing`), and what follows from it.
pub mod Listing
pub mod Whole
pub mod Reached
pub mod Once
pub mod Flags
pub mod Worked
pub mod Shams
