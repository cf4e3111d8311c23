pub mod Stages
pub mod Answers
pub mod Unique
pub mod Same
pub mod Uncut
pub mod Splits
pub mod Standing
pub mod Content
