-- What only private functions cite.
pub mod Events
pub mod Held
pub mod Jobs
pub mod Parts
pub mod Reading
pub mod Routes
pub mod States
pub mod Takes
