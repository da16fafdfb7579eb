-- The numbers with which calls are refused, what the number that an export answers tells, and that it is the only one.
pub mod Numbers
pub mod Codes
pub mod Unique
