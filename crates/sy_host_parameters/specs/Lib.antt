pub mod Accounts
pub mod HostParameters
pub mod Hosts
pub mod internal
