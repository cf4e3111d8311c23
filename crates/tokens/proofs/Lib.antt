pub mod Halves
pub mod Forms
pub mod Places
pub mod Storing
pub mod Laid
pub mod Parts
pub mod Back
pub mod Checking
pub mod Rows
mod Examples
