pub mod Sent
pub mod Unkept
