-- Why a call is declined, and the test on a range of numbers.
pub mod Range
pub mod Refusals
