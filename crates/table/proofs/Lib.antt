-- Lemmas, from the cells up.
pub mod Cells
pub mod Entries
pub mod Verdicts
pub mod Knowing
pub mod Growing
pub mod Admitting
pub mod Lines
pub mod Whole
