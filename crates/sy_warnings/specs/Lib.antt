pub mod Audit
pub mod ArchiveFiles
pub mod Following
pub mod Holding
pub mod Holders
pub mod internal
