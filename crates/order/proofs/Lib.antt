pub mod Anew
pub mod Bits
pub mod Named
pub mod Records
pub mod Answer
pub mod Files
pub mod Back
