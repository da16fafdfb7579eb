pub mod Texts
pub mod Walking
pub mod Numbering
pub mod Listings
pub mod Heads
pub mod Contents
pub mod NodeLines
