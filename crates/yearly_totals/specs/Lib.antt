pub mod Months
pub mod YearRun
