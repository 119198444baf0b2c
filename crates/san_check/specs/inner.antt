pub mod Walks
pub mod Models
