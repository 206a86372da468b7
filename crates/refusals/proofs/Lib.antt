pub mod Firsts
pub mod Answered
