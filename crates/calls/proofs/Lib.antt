pub mod Takes
pub mod Kept
