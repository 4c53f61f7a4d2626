-- A gas account and its calls.
pub mod Limits
pub mod Calls
pub mod Whole
pub mod Refusals
pub mod Outcomes
pub mod Works
