pub mod Flowing
pub mod OwnSteps
pub mod Heights
pub mod Jams
