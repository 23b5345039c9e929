-- What the objects of a script may be given, and what they say.
pub mod Rows
pub mod RowViews
pub mod Values
pub mod Objects
