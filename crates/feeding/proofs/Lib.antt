-- Laws of lines worked.
pub mod Reached
pub mod Entering
pub mod Running
