pub mod Months
pub mod Proved
