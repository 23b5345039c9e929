-- What only private functions cite.
pub mod Instances
pub mod Checks
