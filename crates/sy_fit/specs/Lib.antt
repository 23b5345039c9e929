pub mod Fit
pub mod Risks
pub mod Acceptance
pub mod Claims
pub mod Verifying
pub mod internal
