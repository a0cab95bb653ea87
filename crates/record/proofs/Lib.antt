pub mod Laws
pub mod Front
