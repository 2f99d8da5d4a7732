-- The house slope of a size, the rule of the table, and the test that antt computes over it.
pub mod House
pub mod SizeTest
pub mod SlopeTest
pub mod Table
