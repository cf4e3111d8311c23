pub mod Ways
pub mod Scans
pub mod Next
pub mod Whole
