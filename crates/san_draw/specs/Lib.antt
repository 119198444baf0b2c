pub mod Key
pub mod Streams
pub use Rattle.san_base.specs.Draws
