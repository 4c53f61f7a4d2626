-- Figures worked by hand hold.
pub mod Starred
pub mod Parts
