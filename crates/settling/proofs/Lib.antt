pub mod Fours
pub mod Bounds
pub mod Settles
pub mod Adding
pub mod AddsUp
