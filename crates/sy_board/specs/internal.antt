-- What the code keeps and counts. No public clause names it.
pub mod Counting
pub mod Stored
pub mod Jobs
pub mod Guarding
pub mod Kept
