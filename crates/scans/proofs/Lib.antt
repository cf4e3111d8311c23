pub mod Characters
pub mod Reaching
pub mod Nones
pub mod ByteScans
pub mod Quotes
pub mod Classes
pub mod Comments
