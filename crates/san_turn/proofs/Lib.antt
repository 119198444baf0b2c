pub mod Changes
pub mod Lists
pub mod Raised
pub mod Spread
pub mod Timed
pub mod Needed
pub mod Opened
pub mod Blocks
