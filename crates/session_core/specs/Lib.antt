pub mod Versions
pub mod Numbers
pub mod ReadFrames
pub mod Requests
pub mod CloseCodes
pub mod Sessions
pub mod Worked
pub mod Pieces
