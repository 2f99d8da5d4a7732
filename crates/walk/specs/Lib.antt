-- What the walk of a tile promises, and the laws behind its loops.
pub mod Bound
pub mod Sums
pub mod Fill
pub mod Along
pub mod Inverse
pub mod Walk
pub mod Line
pub mod Good
