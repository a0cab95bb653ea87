pub mod Outcome
pub mod History
