pub mod Ports
pub mod UnreadFiles
pub mod internal
