-- The items of a script, in the order of the text.
pub mod Outline
pub mod ItemViews
pub mod ItemFaults
pub mod PartItems
pub mod Expressions
