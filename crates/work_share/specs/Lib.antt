pub mod Costs
pub mod Counts
pub mod Grants
pub mod LineSteps
pub mod Lines
pub mod Loads
pub mod Windows
