-- Laws of the cycle and of the passes.
pub mod Poised
pub mod Answered
pub mod Visit
pub mod Expand
pub mod Inter
pub mod Each
pub mod Rule
pub mod MadeOf
pub mod Passes
pub mod Steps
