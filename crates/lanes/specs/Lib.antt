-- The open items of a ledger among the places of an array.
pub mod OpenItems
