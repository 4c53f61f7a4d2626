-- Laws of digits and frames.
pub mod Digits
pub mod Table
pub mod Frames
pub mod Numbers
pub mod Encoding
