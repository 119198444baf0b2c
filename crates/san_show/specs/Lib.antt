pub mod Pages
pub mod Canonical
