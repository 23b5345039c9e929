pub mod Guarding
pub mod Halted
pub mod RunArgs
