pub mod Slots
pub mod Months
