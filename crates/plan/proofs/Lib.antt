-- Laws of what calls plan.
pub mod Planning
pub mod Bounds
pub mod Alone
