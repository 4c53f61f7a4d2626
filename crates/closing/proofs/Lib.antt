-- Laws of what a closing works out.
pub mod Nets
pub mod Ready
