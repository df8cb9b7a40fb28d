pub mod Flights
pub mod Lines
pub mod Messages
