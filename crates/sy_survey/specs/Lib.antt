pub mod Converting
pub mod Surveys
pub mod Together
pub mod internal
