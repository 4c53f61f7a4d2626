-- Dials and volumes: articles 13 and 14 of the supply terms.
pub mod Limits
pub mod Dial
pub mod Sharing
pub mod Metering
