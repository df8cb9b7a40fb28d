pub mod Directories
pub mod Groups
pub mod Keeping
pub mod Keys
pub mod LastSlots
pub mod Soughts
pub mod Tickets
pub mod Waiting
