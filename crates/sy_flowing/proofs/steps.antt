pub mod Relays
pub mod Places
pub mod Measure
pub mod PlanFacts
pub mod Moves
pub mod Progress
pub mod Finish
pub mod Ends
