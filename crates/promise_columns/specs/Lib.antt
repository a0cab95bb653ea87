pub mod Sheets
pub mod Promise
