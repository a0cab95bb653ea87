pub mod Sound
pub mod Step
pub mod Accepted
pub mod Settle
pub mod Take
pub mod Fits
pub mod Numbers
