use Rattle.std.proofs.Common.{◌≡◌, [], drop}
use Rattle.san_check.specs.inner.Walks.{seen_all}
use Rattle.san_check.specs.walk.Composition.{shares_entries, all_shares}
use Rattle.san_check.proofs.walk.composition.walk_shares.Given as goal

abbrev pub invariant-shares : goal.invariant-shares
invariant-shares l = record {
  entries : seen_all l.walk (shares_entries l.children l.shares l.taken l.n (drop l.n l.decls)) ≡ seen_all l.fn.walk (shares_entries l.children [] [] 0 l.decls);
  shares : all_shares l.children l.shares (drop l.n l.decls) ≡ all_shares l.children [] l.decls;
}
