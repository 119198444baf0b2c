use Rattle.std.proofs.Common.{◌≡◌, ℕ, ◌&&◌, cond, nat_eq, take, None}
use Rattle.std.specs.Prelude.{position}
use Rattle.indexmap.specs.IndexMap.{get}
use Rattle.san_tree.specs.inner.Shared.{or_else, same_part}
use Rattle.san_tree.proofs.shared.note_rep.Given as goal

abbrev pub invariant-shares : goal.invariant-shares
invariant-shares l = (k c p : ℕ) → get same_part l.table (k, c, p) ≡ or_else (get same_part l.fn.table (k, c, p)) (cond (nat_eq l.node k && nat_eq 0 c) (position (λ q. nat_eq q p) (take l.place l.shares)) None)
