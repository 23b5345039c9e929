-- What only private functions cite.
pub mod Alike
pub mod Found
pub mod Hops
pub mod Leads
pub mod Marks
pub mod Search
pub mod Walks
