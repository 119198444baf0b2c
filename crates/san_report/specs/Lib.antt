pub mod Closings
pub mod Lines
pub mod Pages
pub mod Puts
