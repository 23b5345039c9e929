-- What only private functions cite.
pub mod Carried
pub mod Linked
pub mod Ownership
