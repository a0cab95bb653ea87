pub mod Cell
pub mod Point
