-- When a call is declined for what it and the head of the account show.
pub mod Limits
pub mod Statuses
pub mod Periods
pub mod Heads
pub mod Refusals
