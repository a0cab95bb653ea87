pub mod Work
pub mod Promise
