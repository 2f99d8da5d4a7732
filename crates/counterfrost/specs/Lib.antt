-- The face for C: what a reader must believe (`Numbers`, `Calls`), and what follows from it.
pub mod Numbers
pub mod Calls
pub mod Fits
pub mod Apart
pub mod Once
pub mod Shams
