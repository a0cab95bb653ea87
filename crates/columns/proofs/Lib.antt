mod Short
pub mod OneFilled
