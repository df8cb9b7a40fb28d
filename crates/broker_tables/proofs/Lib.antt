mod Answering
pub mod AtOnce
pub mod Awaiting
pub mod Dues
pub mod Handing
pub mod Keeping
pub mod KeptLines
pub mod Marks
pub mod Nexts
pub mod Operating
pub mod Scopes
pub mod SettledSums
pub mod Settling
pub mod Topics
pub mod Turning
pub mod Users
pub mod Waiters
