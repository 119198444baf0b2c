use Rattle.std.proofs.Common.{◌≡◌, [], drop}
use Rattle.san_check.specs.inner.Walks.{seen_all}
use Rattle.san_check.specs.walk.Composition.{shown_entries, all_shown}
use Rattle.san_check.proofs.walk.composition.walk_shown.Given as goal

abbrev pub invariant-names : goal.invariant-names
invariant-names l = record {
  entries : seen_all l.walk (shown_entries l.places l.shares l.n (drop l.n l.names)) ≡ seen_all l.fn.walk (shown_entries l.places [] 0 l.names);
  shares : all_shown l.places l.shares (drop l.n l.names) ≡ all_shown l.places [] l.names;
}
