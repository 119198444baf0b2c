pub mod Heard
pub mod Joined
