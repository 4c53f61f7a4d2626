-- Laws of the calendar.
pub mod Intervals
pub mod Months
pub mod Table
pub mod Years
pub mod Dates
pub mod RoundTrip
