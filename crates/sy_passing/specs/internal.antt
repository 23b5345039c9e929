-- What only private functions cite.
pub mod Stops
pub mod Ways
pub mod Pass
