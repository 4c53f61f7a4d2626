-- Laws of the rate of tax.
pub mod Rate
