-- Lines that come in: frames of calls.
pub mod Digits
pub mod Layout
pub mod Frames
pub mod Numbers
