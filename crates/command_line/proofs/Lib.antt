pub mod Addressing
mod Asking
mod Giving
mod Naming
mod Nothing
pub mod FirstWords
