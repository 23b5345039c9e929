pub mod Fronts
pub mod Holds
