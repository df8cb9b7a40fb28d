pub mod Members
pub mod Shares
pub mod Waiting
