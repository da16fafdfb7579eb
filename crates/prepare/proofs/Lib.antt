-- The rows of a table that was read, and what its runs are given.
pub mod Prepares
pub mod Facts
