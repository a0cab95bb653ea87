pub mod Series
pub mod ByMonth
