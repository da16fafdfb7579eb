-- What is shown of an outcome, how an input is cut into parts, and that no more of it is read than can matter.
pub mod Showing
pub mod Cutting
pub mod Enough
