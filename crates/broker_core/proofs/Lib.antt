pub mod Answering
pub mod Transactions
pub mod Flights
pub mod FlightsFrom
pub mod PrecheckSteps
pub mod Outcomes
