pub mod Words
pub mod Prepared
pub mod Optioned
pub mod CommandReports
pub mod Examples
pub mod internal
