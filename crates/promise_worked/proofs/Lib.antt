pub mod Worked
pub mod Proved
