pub mod Lines
pub mod Tunnels
