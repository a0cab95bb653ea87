pub mod Laws
pub mod Answer
pub mod Chunks
