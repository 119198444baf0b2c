pub mod Sightings
pub mod Models
