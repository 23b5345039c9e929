pub mod FilesGiven
pub mod Promised
pub mod Unread
