pub mod Chains
pub mod Wanting
