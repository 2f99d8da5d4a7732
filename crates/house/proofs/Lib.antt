-- What the look-up in a table of house slopes tells.
pub mod Found
