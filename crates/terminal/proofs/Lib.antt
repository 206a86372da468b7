pub mod Answering
pub mod Keeping
pub mod Most
pub mod OneMore
pub mod Settling
pub mod Performing
pub mod OfType
