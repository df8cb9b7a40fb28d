pub mod Flights
pub mod HeaderSizes
pub mod Inserted
pub mod Results
pub mod RisingLines
