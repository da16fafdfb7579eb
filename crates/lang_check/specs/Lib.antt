pub mod RootAnswer
pub mod Cycle
pub mod Making
pub mod Roots
