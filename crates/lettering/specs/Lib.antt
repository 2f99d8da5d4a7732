-- The lines of a listing: what a reader must believe (`Line`), and the laws behind it.
pub mod Line
pub mod Decimal
pub mod Blank
