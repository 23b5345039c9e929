-- What only private functions cite.
pub mod Acceptance
pub mod Inners
pub mod Judging
pub mod Order
pub mod Path
pub mod Ranked
pub mod Risks
pub mod Verifying
