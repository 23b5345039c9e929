pub mod Names
pub mod Selectors
pub mod Faults
pub mod Properties
pub mod Truth
pub mod Trees
pub mod internal
