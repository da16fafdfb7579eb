-- What the functions' proofs cite, and that the promise leaves nothing open.
pub mod Calling
pub mod Unique
pub mod Showing
