pub mod Sites
pub mod machine
pub mod texts
pub mod Finding
pub mod Names
pub mod internal
