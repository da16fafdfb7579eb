pub mod Rechecked
pub mod Program
