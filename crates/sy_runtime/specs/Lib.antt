pub mod Faults
pub mod Connections
pub mod Turns
pub mod Standing
pub mod Stopping
pub mod internal
