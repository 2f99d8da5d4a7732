-- The header of a record: what a reader must believe (`Header`, `Record`), and what follows from it.
pub mod Header
pub mod Record
pub mod Mark
pub mod Same
pub mod Laid
pub mod Carry
pub mod Shams
