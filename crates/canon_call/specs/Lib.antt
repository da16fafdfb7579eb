pub mod Called
pub mod Program
