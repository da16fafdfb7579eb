pub mod Writes
pub mod Walks
pub mod Printed
