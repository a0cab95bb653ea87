pub mod Afresh
pub mod Promise
