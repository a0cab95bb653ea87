pub mod Decimal
pub mod LineLaws
pub mod Writing
