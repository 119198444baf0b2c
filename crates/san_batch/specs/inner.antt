pub mod Heard
pub mod Shares
