-- Sums over lists, arrays filled from the front, what every element passes, and joined texts.
pub mod Sum
pub mod Pad
pub mod Every
pub mod Joined
