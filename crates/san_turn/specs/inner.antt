pub mod Marks
pub mod Timed
pub mod Ordered
