pub mod Written
pub mod Promise
pub mod Survey
