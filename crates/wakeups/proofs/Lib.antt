pub mod Calling
pub mod Keeping
pub mod Marking
