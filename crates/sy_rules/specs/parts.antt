-- The parts of a plan, by the objects that give them.
pub mod Plans
pub mod Given
