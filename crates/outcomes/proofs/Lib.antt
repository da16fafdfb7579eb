-- What callers' proofs cite.
pub mod Promises
