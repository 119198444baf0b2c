pub mod ProbeLemmas
