-- The book behind the two sums, and the claim about every list of calls.
pub mod Book
pub mod Claim
