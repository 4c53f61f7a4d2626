-- The file `closed`.
pub mod ClosedFile
pub mod Reading
