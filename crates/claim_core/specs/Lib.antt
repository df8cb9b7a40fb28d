pub mod Appends
pub mod Counts
pub mod Endings
pub mod Laid
pub mod Places
pub mod Rule
pub mod Seats
pub mod Steps
