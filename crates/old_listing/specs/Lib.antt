pub mod Olds
