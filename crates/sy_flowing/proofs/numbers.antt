pub mod Heights
pub mod Deciding
pub mod Falling
pub mod NoCircle
