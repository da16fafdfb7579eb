pub mod Asking
pub mod Cancelled
pub mod Absorbed
pub mod OwnKeys
pub mod Marked
pub mod Redundant
pub mod Contradiction
pub mod Simplified
