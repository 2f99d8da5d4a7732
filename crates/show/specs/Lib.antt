-- A walk along a window: what a reader must believe (`Show`, `Status`), and what follows from it.
pub mod Show
pub mod Status
pub mod Count
pub mod Going
pub mod Lists
pub mod Once
pub mod Shams
