-- What the contracts assume and the laws show.
pub mod Sound
pub mod Indexed
pub mod Marks
pub mod Variables
