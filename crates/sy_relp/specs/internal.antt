-- What only private contracts name.
pub mod Parts
pub mod Marks
pub mod Streams
