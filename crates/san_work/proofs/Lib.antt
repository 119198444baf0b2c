pub mod Turning
pub mod Finishing
pub mod Continuing
