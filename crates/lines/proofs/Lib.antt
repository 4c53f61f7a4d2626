-- Laws of feeding.
pub mod Feeding
pub mod Going
pub mod Declining
