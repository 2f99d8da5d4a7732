-- The reel: what a reader must believe (`Answer`, `Calls`, `Reading`, `Walk`, `Laid`; what a record's header says stands in the crate
-- `header`), and what follows from it.
pub mod Answer
pub mod Calls
pub mod Reading
pub mod Told
pub mod Once
pub mod Total
pub mod Walk
pub mod Part
pub mod Walks
pub mod Laid
pub mod Records
pub mod Promise
pub mod Worked
pub mod Shams
