pub mod Places
pub mod Classes
pub mod More
pub mod Spares
pub mod Kept
pub mod Archives
pub mod Targets
