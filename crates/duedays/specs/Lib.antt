-- Closed days and due days.
pub mod Limits
pub mod DueDays
pub mod Search
