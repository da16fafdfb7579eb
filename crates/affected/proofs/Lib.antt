-- Laws of the queue, of what it reaches, and of what that relies on.
pub mod Queueing
pub mod Reaching
pub mod Searching
