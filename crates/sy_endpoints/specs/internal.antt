-- What only private functions cite.
pub mod Searches
pub mod Targets
