pub mod Records
pub mod Steps
pub mod Turns
pub mod Years
pub mod Example
pub mod Proved
