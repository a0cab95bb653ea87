pub mod WholeRun
pub mod OneRun
pub mod Proved
