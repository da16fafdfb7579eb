-- Reading and storing nodes, sets in rows, disjointness, order: what the functions' proofs and callers cite.
pub mod Codes
pub mod Words
pub mod Buckets
pub mod Find
pub mod Intern
pub mod Rows
pub mod Stores
pub mod Series
pub mod Attrsets
pub mod Shapes
pub mod Children
pub mod Items
pub mod Compare
