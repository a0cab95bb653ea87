pub mod Work
pub mod Proved
