-- The theorems of the worked examples.
pub mod Examples
pub mod CallExamples
