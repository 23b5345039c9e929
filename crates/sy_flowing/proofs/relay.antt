pub mod DueNumbers
pub mod Weights
