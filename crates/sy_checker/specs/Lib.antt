pub mod Survey
pub mod Checking
pub mod internal
