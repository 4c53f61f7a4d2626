-- The words of the logic's libraries that proofs use, and laws of tests, of cases and of refusals.
pub mod Words
pub mod Tests
pub mod Cases
pub mod Refusals
