pub mod relay
pub mod Faults
pub mod internal
