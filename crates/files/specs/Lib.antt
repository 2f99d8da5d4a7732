-- The command's files and words: what an exit status may be.
pub mod Exit
pub mod Status
