pub mod Recorded
pub mod Played
