pub mod Midway
pub mod MidColumn
pub mod MidFigures
