use Rattle.std.proofs.Common.{◌≡◌, [], drop}
use Rattle.san_check.specs.inner.Walks.{seen_all}
use Rattle.san_check.specs.walk.Atomic.{acts_entries, all_acts}
use Rattle.san_check.proofs.walk.atomic.walk_acts.Given as goal

abbrev pub invariant-acts : goal.invariant-acts
invariant-acts l = record {
  entries : seen_all l.walk (acts_entries l.places l.acts l.n (drop l.n l.decls)) ≡ seen_all l.fn.walk (acts_entries l.places [] 0 l.decls);
  acts : all_acts l.acts (drop l.n l.decls) ≡ all_acts [] l.decls;
}
