pub mod Walks
pub mod Steps
pub mod OverRun
pub mod MidYears
pub mod ByYear
pub mod Answers
pub mod Ranges
pub mod OneReport
