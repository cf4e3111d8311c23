pub mod Arms
pub mod Scans
pub mod Run
pub mod Leaves
pub mod Exposed
pub mod Promise
