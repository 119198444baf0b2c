pub mod AskLemmas
pub mod CaseLemmas
pub mod DrawnLemmas
pub mod DueLemmas
pub mod RenewalLemmas
pub mod RenewLemmas
pub mod RowLemmas
