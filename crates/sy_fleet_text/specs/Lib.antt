pub mod Classes
pub mod Stretches
pub mod Words
pub mod Pieces
pub mod Texts
pub mod Faults
pub mod internal
