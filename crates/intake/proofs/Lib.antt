-- Laws of calls that pass numbers 1 to 11.
pub mod Passed
