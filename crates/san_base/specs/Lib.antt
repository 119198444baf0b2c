pub mod Draws
pub mod Flow
pub mod Limits
pub mod Memory
pub mod Names
pub mod Rated
pub mod Status
pub mod inner
