pub mod Every
pub mod Series
pub mod Sums
pub mod Rule
pub mod ByMonth
pub mod Laws
