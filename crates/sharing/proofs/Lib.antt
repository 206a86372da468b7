pub mod Guaranteed
pub mod Steps
pub mod Along
pub mod Judged
pub mod Cuts
