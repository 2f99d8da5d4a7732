-- What the records of a sheet and of a reel share.
pub mod Number
pub mod Shams
