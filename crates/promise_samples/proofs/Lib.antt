pub mod Sorting
pub mod Proved
