pub mod Years
pub mod KeptTotals
pub mod Numbers
pub mod Proved
