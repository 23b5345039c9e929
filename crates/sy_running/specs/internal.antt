-- What only private functions cite.
pub mod Commands
pub mod Owners
