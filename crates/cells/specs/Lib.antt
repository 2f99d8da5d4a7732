-- What is promised of bytes that are put into a tile or taken out of it, and the laws behind the loops.
pub mod Change
pub mod Text
