pub mod WholeRun
pub mod Promise
