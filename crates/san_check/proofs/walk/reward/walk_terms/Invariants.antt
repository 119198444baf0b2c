use Rattle.std.proofs.Common.{◌≡◌, drop}
use Rattle.san_check.specs.inner.Walks.{seen_all}
use Rattle.san_check.specs.walk.Reward.{terms_entries}
use Rattle.san_check.proofs.walk.reward.walk_terms.Given as goal

abbrev pub invariant-terms : goal.invariant-terms
invariant-terms l = seen_all l.walk (terms_entries l.known.places l.known.acts l.at l.n (drop l.n l.terms)) ≡ seen_all l.fn.walk (terms_entries l.known.places l.known.acts l.at 0 l.terms)
