pub mod Fraction
pub mod Lists
pub mod Bytes
pub mod Eight
pub mod Fault
