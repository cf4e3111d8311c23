pub mod Puts
pub mod ByKind
pub mod Lists
pub mod Cutting
pub mod Answers
pub mod Unique
pub mod Surveying
