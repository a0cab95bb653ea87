pub mod Year
pub mod Stretch
pub mod Refusal
