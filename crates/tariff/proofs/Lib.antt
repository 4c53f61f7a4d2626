-- Laws of the tariff: bounds of the unit and of the price, and the rule of the band table.
pub mod Bounds
pub mod Table
