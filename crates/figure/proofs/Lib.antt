pub mod Shares
pub mod Laws
pub mod Grows
