pub mod Weights
pub mod Boxes
pub mod Ends
pub mod Senders
pub mod Takes
pub mod Giving
pub mod Crowdings
