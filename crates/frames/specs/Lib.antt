pub mod Hex
pub mod Frames
pub mod Filled
