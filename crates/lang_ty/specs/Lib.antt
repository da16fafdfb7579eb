pub mod Buckets
pub mod Given
pub mod Nodes
pub mod Sets
pub mod Shapes
pub mod Orders
