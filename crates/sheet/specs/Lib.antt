-- The correction sheet: what a reader must believe (`Sheet`, `Answer`, `Calls`), and what follows from it.
pub mod Sheet
pub mod Answer
pub mod Calls
pub mod Judge
pub mod Make
pub mod Once
pub mod Last
pub mod Promise
pub mod Worked
pub mod Shams
