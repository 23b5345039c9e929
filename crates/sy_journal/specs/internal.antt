-- What is read of a log on the way, and what all segments have.
pub mod Reading
pub mod Stored
