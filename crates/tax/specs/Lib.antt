-- Consumption tax.
pub mod Rate
