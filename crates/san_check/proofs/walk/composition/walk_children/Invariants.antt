use Rattle.std.proofs.Common.{◌≡◌, [], drop}
use Rattle.san_check.specs.inner.Walks.{seen_all}
use Rattle.san_check.specs.walk.Composition.{children_entries, all_children}
use Rattle.san_check.proofs.walk.composition.walk_children.Given as goal

abbrev pub invariant-children : goal.invariant-children
invariant-children l = record {
  entries : seen_all l.walk (children_entries l.models l.children l.n (drop l.n l.decls)) ≡ seen_all l.fn.walk (children_entries l.models [] 0 l.decls);
  children : all_children l.models l.children (drop l.n l.decls) ≡ all_children l.models [] l.decls;
}
