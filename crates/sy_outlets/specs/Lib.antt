pub mod Ports
pub mod Left
pub mod internal
pub mod FileWriters
