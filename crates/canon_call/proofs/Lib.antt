-- What callers' proofs cite, and that the promises leave nothing open.
pub mod Calling
pub mod Unique
pub mod Showing
