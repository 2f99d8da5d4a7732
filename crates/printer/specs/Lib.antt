-- Laying a record: what a reader must believe (`Lay`), and what follows from it.
pub mod Lay
pub mod Laying
pub mod Once
pub mod Total
pub mod Back
pub mod Shams
