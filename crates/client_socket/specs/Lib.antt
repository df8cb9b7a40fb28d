pub mod Inputs
pub mod Waits
