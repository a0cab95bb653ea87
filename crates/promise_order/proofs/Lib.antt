pub mod Shuffled
pub mod Righted
pub mod Proved
