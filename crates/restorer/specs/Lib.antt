-- Restoring a tile: what a reader must believe (`Restore`), and what follows from it.
pub mod Restore
pub mod Told
pub mod Once
pub mod Promise
pub mod Shams
