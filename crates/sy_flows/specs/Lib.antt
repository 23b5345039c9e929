pub mod Flows
pub mod Hops
pub mod Members
pub mod Search
pub mod Leads
pub mod Walks
pub mod internal
