-- Laws of open items.
pub mod Covered
pub mod Places
