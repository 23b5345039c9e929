pub mod Conversions
pub mod internal
