-- Lemmas that several proofs share.
pub mod texts
pub mod sites
