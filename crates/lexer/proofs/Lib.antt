pub mod Choice
pub mod Spelling
pub mod Steps
pub mod Marks
pub mod Turns
pub mod Answering
pub mod Unique
pub mod Formed
pub mod Pieces
pub mod Local
mod Examples
