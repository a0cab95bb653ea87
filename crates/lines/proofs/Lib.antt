pub mod Enough
pub mod Lines
pub mod MidListing
pub mod OneListing
