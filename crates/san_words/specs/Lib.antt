pub mod Commands
pub mod Hears
pub mod Options
pub mod inner
