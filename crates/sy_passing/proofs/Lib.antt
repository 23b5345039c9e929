pub mod Carrying
pub mod Passes
pub mod Ready
pub mod Statuses
