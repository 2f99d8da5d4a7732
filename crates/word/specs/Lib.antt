-- Words: what a reader must believe (`Word`, `Version`), and the laws behind it.
pub mod Word
pub mod Version
pub mod Kinds
pub mod Fits
