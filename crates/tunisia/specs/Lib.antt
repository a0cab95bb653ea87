pub mod Years
pub mod Reduction
pub mod Walk
pub mod Numbers
pub mod Taken
