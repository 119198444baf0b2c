pub mod Tables
pub mod Formed
pub mod Checked
pub mod Composed
pub mod Answers
pub mod walk
pub mod build
pub mod inner
