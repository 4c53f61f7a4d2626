-- What a call plans on the numbers of an account.
pub mod Plans
