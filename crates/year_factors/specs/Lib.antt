pub mod YearFactors
