pub mod Site
pub mod Proved
