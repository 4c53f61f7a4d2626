-- Accounts kept from before a change of their form.
pub mod Basis
pub mod ClosingDays
pub mod Parts
