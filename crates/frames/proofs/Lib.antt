pub mod Reading
pub mod Printing
pub mod Answers
pub mod Unique
pub mod Longer
pub mod Examples
