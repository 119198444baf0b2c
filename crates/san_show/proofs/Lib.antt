pub mod PageLemmas
pub mod ExpressionLemmas
pub mod StatementLemmas
pub mod ActivityLemmas
pub mod ShowLemmas
