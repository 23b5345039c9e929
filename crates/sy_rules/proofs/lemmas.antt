-- Lemmas that several proofs share, in the folders of the definitions that they are about.
pub mod parameters
pub mod items
pub mod check
pub mod lists
pub mod parts
pub mod plan
