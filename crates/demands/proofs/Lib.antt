mod Checks
pub mod Demand1
pub mod Once
pub mod Demand2
pub mod Demand3
pub mod Rooms
pub mod Rows
pub mod Numbers
pub mod ShutOut
