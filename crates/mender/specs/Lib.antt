-- What a change in a line is called, and how a repair ends.
pub mod Called
pub mod Mended
