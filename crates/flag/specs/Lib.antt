-- Lines and flags as numbers: what a reader must believe (`Flag`), and the laws behind it.
pub mod Flag
pub mod Back
pub mod Shams
