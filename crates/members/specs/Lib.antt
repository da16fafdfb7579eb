pub mod Flow
pub mod Listed
pub mod AtMostOne
pub mod Grown
pub mod Lists
pub mod Flattens
