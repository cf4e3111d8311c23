pub mod Examples
pub mod Lookup
pub mod Written
