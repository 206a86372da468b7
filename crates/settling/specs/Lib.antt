pub mod Classes
pub mod Grants
pub mod Outcomes
pub mod AddUp
