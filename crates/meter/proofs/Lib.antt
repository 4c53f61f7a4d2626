-- Laws of dials and of the sharing rule.
pub mod Dial
pub mod Standing
pub mod Sharing
pub mod Walk
pub mod Absence
