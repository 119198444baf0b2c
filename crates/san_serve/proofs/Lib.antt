pub mod AcceptanceLemmas
pub mod OffsetLemmas
pub mod NoteLemmas
pub mod ServeLemmas
pub mod SettledLemmas
pub mod WrittenLemmas
