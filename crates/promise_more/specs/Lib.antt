pub mod More
pub mod Years
pub mod Example
pub mod Promise
