pub mod Taking
pub mod Passing
