-- Laws of sums over lists, of arrays filled from the front, of what every element passes, and of joined texts.
pub mod Sum
pub mod Pad
pub mod Every
pub mod Joined
