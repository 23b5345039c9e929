pub mod Instances
pub mod Checks
pub mod Verdicts
pub mod internal
