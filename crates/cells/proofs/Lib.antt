pub mod Bounds
pub mod Exact
pub mod InTurn
pub mod Largest
pub mod Limits
pub mod ReadBack
pub mod Steps
pub mod Sums
