pub mod Wanting
pub mod Turns
pub mod InRecords
