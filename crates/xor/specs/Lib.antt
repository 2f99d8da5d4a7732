-- XOR on bytes and over a range: the arithmetic in which every sum of a tile is taken.
pub mod Xor
pub mod Sum
