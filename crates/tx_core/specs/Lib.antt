pub mod TxFaults
pub mod Transactions
pub mod Refusals
pub mod Places
