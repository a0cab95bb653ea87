pub mod Order
pub mod Repair
