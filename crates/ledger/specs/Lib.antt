pub mod Answer
pub mod Step
pub mod Refusal
pub mod Take
pub mod Numbers
