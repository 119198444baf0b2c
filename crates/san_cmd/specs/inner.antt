pub mod Canon
pub mod Heard
