pub mod Months
pub mod Promise
