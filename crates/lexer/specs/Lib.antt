pub mod Rules
pub mod Marks
pub mod Read
pub mod Lexes
