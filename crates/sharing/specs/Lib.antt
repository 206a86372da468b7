pub mod Groups
pub mod Guarantees
pub mod Ranks
pub mod Sharing
pub mod Shared
pub mod Verdict
pub mod Remainder
