pub mod Gathered
pub mod Sifted
pub mod Flattened
pub mod Partway
