pub mod Numbers
pub mod Totals
pub mod Wanted
pub mod States
pub mod Admission
