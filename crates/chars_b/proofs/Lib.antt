mod Counting
pub mod Once
