pub mod WholeEntries
pub mod Listened
pub mod internal
