pub mod Below
pub mod Classes
pub mod Marked
pub mod Alike
pub mod Flowing
