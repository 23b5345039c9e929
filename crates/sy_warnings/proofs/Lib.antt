pub mod Alike
pub mod Arriving
pub mod Execution
pub mod Gathered
pub mod Held
pub mod Starting
pub mod Blocking
