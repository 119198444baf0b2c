pub mod WordLemmas
pub mod RunLemmas
pub mod PieceLemmas
pub mod LoopLemmas
pub mod LayoutLemmas
pub mod SaidLemmas
