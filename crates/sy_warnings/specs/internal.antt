-- What only private functions cite.
pub mod Following
pub mod Holding
pub mod Holders
