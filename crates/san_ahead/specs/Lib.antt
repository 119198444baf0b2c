pub mod Aheads
pub mod Ahead
