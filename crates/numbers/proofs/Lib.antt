pub mod Bytes
pub mod Eight
pub mod Fault
pub mod Fraction
pub mod Joined
pub mod Lists
pub mod Root
pub mod Split
