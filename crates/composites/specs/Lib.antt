pub mod Settled
pub mod Tried
pub mod Places
pub mod Lists
