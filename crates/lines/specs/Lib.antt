-- The lines of a household's file, in pieces.
pub mod Line
pub mod Begun
pub mod Feeding
pub mod Going
