pub mod Snapshots
pub mod Reading
pub mod Worked
pub mod Parts
pub mod Lengths
