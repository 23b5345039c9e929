pub mod Words
pub mod Prepared
pub mod Commands
pub mod Program
pub mod internal
