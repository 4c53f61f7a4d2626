-- Laws of accounts kept from before a change of their form.
pub mod Places
pub mod ClosingDays
pub mod Turning
pub mod Reached
pub mod Started
pub mod LastVolume
