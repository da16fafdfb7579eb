pub mod Merged
pub mod Merges
