pub mod Bells
pub mod Budgets
pub mod Called
pub mod Machines
pub mod MarkMachines
pub mod Promises
pub mod Rooms
pub mod Sums
