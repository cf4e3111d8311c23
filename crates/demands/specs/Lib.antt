pub mod Terms
pub mod Tables
pub mod Statements
pub mod Numbers
