pub mod SaysOwn
pub mod Promise
