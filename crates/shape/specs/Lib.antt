pub mod Due
pub mod Fits
pub mod Moved
pub mod Passes
