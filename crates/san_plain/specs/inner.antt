pub mod Accounts
pub mod Progress
pub mod Rated
pub mod Rates
