pub mod Alone
pub mod Ledgers
