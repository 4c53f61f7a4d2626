-- Price of a period: articles 18 and 19 of the supply terms.
pub mod Limits
pub mod Fuel
pub mod Bands
pub mod Price
