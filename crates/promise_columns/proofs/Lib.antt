pub mod Histories
pub mod Places
pub mod Proved
