pub mod Offering
pub mod OneByOne
pub mod Stock
pub mod Stocks
pub mod Release
pub mod Figure
pub mod Figures
pub mod Proved
