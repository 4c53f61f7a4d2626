-- The lines of a piece, worked one after another.
pub mod Reached
pub mod Working
