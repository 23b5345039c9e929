pub mod Lists
pub mod Places
pub mod NoWorse
pub mod Judged
