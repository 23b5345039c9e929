-- The lists of a plan, and what is executed of them.
pub mod Texts
pub mod Body
pub mod Lines
pub mod Sets
pub mod Work
pub mod Laws
