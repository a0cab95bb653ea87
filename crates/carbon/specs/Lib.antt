pub mod Carbon
