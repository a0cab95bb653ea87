pub mod Whole
pub mod Bits
pub mod Cells
pub mod Points
