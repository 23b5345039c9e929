pub mod Cutting
pub mod LeftFrames
pub mod Offers
pub mod Sent
