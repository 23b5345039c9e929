pub mod Lineup
pub mod Owners
pub mod Telling
