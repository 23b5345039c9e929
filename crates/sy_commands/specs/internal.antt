-- What only private functions cite.
pub mod Commands
pub mod Halts
pub mod Optioned
pub mod Surveys
pub mod Unverified
