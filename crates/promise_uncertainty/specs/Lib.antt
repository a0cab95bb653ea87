pub mod Uncertainties
pub mod Promise
