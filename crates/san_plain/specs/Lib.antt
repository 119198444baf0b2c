pub mod Measures
pub mod Reports
pub mod inner
