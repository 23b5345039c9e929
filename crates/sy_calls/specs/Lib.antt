pub mod internal
pub mod Calls
