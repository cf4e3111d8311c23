pub mod Bytes
pub mod Joining
pub mod Fronts
pub mod Scalars
pub mod Stepping
pub mod Sizes
mod Gathered
mod Blocks
pub mod Encoded
pub mod Whole
pub mod Rfc
pub mod Breaks
pub mod Halving
pub mod Rule
pub mod Spelled
mod Examples
