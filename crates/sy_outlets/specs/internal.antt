-- What only private functions cite.
pub mod Archives
pub mod Cutting
