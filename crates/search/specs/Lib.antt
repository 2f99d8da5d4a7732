-- What the search for a hurt line promises, and the laws behind its loops.
pub mod Line
pub mod Hurt
