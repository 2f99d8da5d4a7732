-- How a filling ends.
pub mod Filled
