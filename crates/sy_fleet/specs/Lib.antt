pub mod Includes
pub mod Modules
pub mod Statements
pub mod internal
