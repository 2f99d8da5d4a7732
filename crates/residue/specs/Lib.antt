-- Remainders modulo p, and what more holds where p is prime: the arithmetic behind lines and slopes; and which sizes and slopes there are.
pub mod Remainder
pub mod Prime
pub mod Pigeon
pub mod Power
pub mod Search
pub mod Order
pub mod Size
pub mod Test
