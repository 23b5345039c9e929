pub mod Actions
pub mod Inputs
pub mod Queues
pub mod Tests
