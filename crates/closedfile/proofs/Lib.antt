-- Laws of the file `closed`.
pub mod ClosedFile
