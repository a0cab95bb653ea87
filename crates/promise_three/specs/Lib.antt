pub mod Offering
pub mod Exact
pub mod DemandThree
pub mod Promise
