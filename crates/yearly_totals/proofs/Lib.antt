pub mod Refusals
pub mod Turns
pub mod YearRun
pub mod Parts
pub mod OneYear
pub mod Files
pub mod OneMonth
