pub mod Tickets
pub mod Kept
pub mod Settled
pub mod Changes
pub mod Pinned
pub mod Calls
pub mod Runs
