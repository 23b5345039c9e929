pub mod SiteFiles
pub mod Halts
pub mod internal
