pub mod Prefixes
pub mod Gifts
pub mod Sessions
