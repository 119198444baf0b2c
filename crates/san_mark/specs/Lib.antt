pub mod Overlays
