pub mod LastLineLemmas
pub mod PageLemmas
pub mod PutLemmas
