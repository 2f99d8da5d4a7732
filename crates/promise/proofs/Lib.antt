-- What the worked tiles show: that the cases of specs/ are as claimed there, and that wrong programs do not meet their contracts.
pub mod Worked
pub mod WorkedRecovered
pub mod Shams
