pub mod Entries
pub mod Named
pub mod Orders
