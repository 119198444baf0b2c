pub mod Bools
pub mod FlowLemmas
pub mod Lists
pub mod NumberTests
pub mod SameLemmas
