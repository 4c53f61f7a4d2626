-- The calendar, and what numbers and dates convert to.
pub mod Limits
pub mod Gregorian
pub mod Conversions
