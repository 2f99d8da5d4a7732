-- How many fillings a row with a column has, and one turn of the loop that sums a class.
pub mod Many
pub mod Step
