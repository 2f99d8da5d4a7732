-- A window on a reel: what a reader must believe (`Window`, `Treat`), and what follows from it.
pub mod Window
pub mod Treat
pub mod Going
pub mod Law
pub mod Once
pub mod Untouched
pub mod Shams
