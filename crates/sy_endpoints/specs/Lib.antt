pub mod Hosts
pub mod Outlets
pub mod Endpoints
pub mod internal
