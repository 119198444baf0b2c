use Rattle.std.proofs.Common.{◌≡◌, [], drop}
use Rattle.san_check.specs.inner.Walks.{seen_all}
use Rattle.san_check.specs.walk.Atomic.{places_entries, all_places}
use Rattle.san_check.proofs.walk.atomic.walk_places.Given as goal

abbrev pub invariant-places : goal.invariant-places
invariant-places l = record {
  entries : seen_all l.walk (places_entries l.places l.cells (drop l.decl-index l.decls)) ≡ seen_all l.fn.walk (places_entries [] 0 l.decls);
  places : all_places l.places (drop l.decl-index l.decls) ≡ all_places [] l.decls;
}
