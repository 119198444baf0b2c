pub mod Counted
pub mod Present
pub mod Bounds
