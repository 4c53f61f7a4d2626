-- Laws of whole inputs.
pub mod Lines
pub mod Sums
pub mod Pieces
pub mod Working
pub mod Room
pub mod Notices
