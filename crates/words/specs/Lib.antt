-- The words of a command line: what a reader must believe (`Words`), and the laws behind it.
pub mod Words
pub mod Digits
pub mod Begin
pub mod Names
pub mod Once
pub mod Lines
pub mod Worked
pub mod Shams
