pub mod Shuffled
pub mod Promise
