pub mod Escapes
-- What the contracts cite.
pub mod Reads
pub mod Keywords
