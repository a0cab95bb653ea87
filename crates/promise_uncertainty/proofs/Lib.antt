pub mod Equation
pub mod Uncertainties
pub mod Proved
