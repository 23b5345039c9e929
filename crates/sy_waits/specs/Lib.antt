pub mod internal
