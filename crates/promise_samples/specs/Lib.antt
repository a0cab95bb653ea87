pub mod Sorting
pub mod Promise
