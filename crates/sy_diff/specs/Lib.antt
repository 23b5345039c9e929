pub mod Changes
pub mod Comparisons
pub mod Folders
pub mod Diffs
