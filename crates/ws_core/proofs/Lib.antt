pub mod Consuming
pub mod Cutting
pub mod Failing
pub mod Heads
pub mod Recalling
pub mod Telling
