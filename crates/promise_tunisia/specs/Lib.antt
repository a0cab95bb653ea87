pub mod Exact
pub mod Reported
pub mod Promise
