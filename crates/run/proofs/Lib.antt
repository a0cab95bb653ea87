pub mod History
pub mod OneRecord
pub mod MidRun
pub mod Numbers
