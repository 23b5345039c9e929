pub mod Counted
pub mod Sent
