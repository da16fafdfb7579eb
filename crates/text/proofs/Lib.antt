-- Lemmas, from the spans up.
pub mod Spans
pub mod Follow
pub mod Leaves
pub mod Naming
pub mod Lists
pub mod Fields
pub mod Shaping
pub mod Keywords
