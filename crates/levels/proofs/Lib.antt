pub mod Roots
pub mod Rule
pub mod Tables
