pub mod Firsts
pub mod Lines
pub mod Plain
pub mod Readings
pub mod Runs
