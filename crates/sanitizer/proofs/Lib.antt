pub mod Deciding
pub mod Scanning
pub mod Keeping
pub mod Turning
pub mod Counting
pub mod Alike
pub mod Unread
pub mod Stepping
pub mod Behind
pub mod Ahead
pub mod Starts
pub mod Unique
mod Examples
