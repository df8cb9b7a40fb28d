mod Doing
mod Joining
mod Leaving
mod Rising
mod Settling
mod Showing
pub mod Turns
