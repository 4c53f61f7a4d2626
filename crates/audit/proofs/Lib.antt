-- The two sums hold after every list of calls.
pub mod Entries
pub mod Balance
pub mod Periods
pub mod Matching
pub mod Standings
pub mod Readings
pub mod Misses
pub mod Meters
pub mod Payments
pub mod Theorem
