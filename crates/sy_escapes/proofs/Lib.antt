pub mod Exact
pub mod Readings
pub mod Lines
pub mod Runs
