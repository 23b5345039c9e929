pub mod Pass
pub mod Stops
pub mod Ways
pub mod internal
