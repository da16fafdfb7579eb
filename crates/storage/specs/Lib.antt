pub mod Passes
pub mod Equivs
pub mod Notes
pub mod Vars
pub mod Sets
pub mod Entries
pub mod Helds
