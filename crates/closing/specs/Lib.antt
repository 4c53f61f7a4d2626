-- What a closing works out.
pub mod Closing
pub mod Once
