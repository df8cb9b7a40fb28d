pub mod Copied
pub mod Gathered
pub mod Shown
pub mod Listed
