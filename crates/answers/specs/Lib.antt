pub mod Runs
pub mod Mixes
pub mod Asks
