pub mod Worked
pub mod Promise
