-- What only private functions cite.
pub mod Answer
pub mod Certifying
pub mod Checking
pub mod Course
pub mod Discarding
pub mod Inner
pub mod Leads
pub mod Loops
pub mod Made
pub mod Met
pub mod Search
pub mod Survey
