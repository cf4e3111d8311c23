pub mod Utf8
pub mod Steps
pub mod Table
pub mod Pairs
pub mod Class
