pub mod Sludge
pub mod Promise
