pub mod Asked
pub mod OwnKeys
pub mod Unions
pub mod Intersections
