pub mod Site
pub mod Promise
