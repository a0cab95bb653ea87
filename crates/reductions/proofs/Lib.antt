pub mod Sizes
pub mod Entries
pub mod Years
pub mod Refusals
