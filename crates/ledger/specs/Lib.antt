-- The ledger of an account: articles 20(1), 27 and 28 of the supply terms.
pub mod Limits
pub mod Interest
pub mod Settling
pub mod Posting
pub mod Entries
pub mod Numbers
