pub mod internal
pub mod Escapes
pub mod Reading
pub mod Sinks
