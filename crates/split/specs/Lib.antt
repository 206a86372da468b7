pub mod Shares
pub mod Answer
pub mod Laws
pub mod Claims
