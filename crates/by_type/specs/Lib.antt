pub mod Alone
pub mod Across
pub mod Columns
