-- Laws of what is made of answers in a place.
pub mod Settled
pub mod NormalBounds
pub mod Tries
