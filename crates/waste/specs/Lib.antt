pub mod Kind
pub mod Waste
