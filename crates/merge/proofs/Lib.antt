pub mod Fields
pub mod MergeFields
pub mod MergeSets
pub mod Sieving
pub mod MergeStore
