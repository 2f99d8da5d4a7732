-- How a writing ends.
pub mod Written
