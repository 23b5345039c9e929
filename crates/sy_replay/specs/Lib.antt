pub mod Events
pub mod Flags
pub mod Parts
pub mod States
pub mod Held
pub mod Lines
pub mod internal
