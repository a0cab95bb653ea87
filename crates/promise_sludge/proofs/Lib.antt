pub mod Sludge
pub mod Proved
