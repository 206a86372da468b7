pub mod PlayerFaults
pub mod Text
