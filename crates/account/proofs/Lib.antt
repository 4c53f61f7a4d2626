-- Laws of the account.
pub mod Made
pub mod Equal
pub mod Facts
pub mod Passed
pub mod Sound
pub mod Ready
pub mod Concluding
pub mod Working
pub mod Carrying
