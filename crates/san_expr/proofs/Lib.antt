pub mod ConcernLemmas
pub mod ViewLemmas
pub mod ComposeLemmas
pub mod EvalLemmas
pub mod StatementLemmas
pub mod WholeLemmas
pub mod Unrolling
