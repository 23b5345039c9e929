mod Meetings
pub mod Named
mod Searches
