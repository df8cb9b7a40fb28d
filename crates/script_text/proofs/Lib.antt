pub mod ConnectionNumbers
pub mod CrashCounts
pub mod Encodings
