pub mod ReadFrames
pub mod Acting
pub mod Hearings
pub mod Decimals
pub mod Forms
