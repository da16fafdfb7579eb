-- What callers' proofs cite.
pub mod Delivered
pub mod Bounds
pub mod Running
pub mod Mixing
pub mod Asking
