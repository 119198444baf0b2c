use Rattle.std.proofs.Common.{◌≡◌, ℕ, ◌&&◌, cond, nat_eq, take, Some, None}
use Rattle.std.specs.List.{list_any}
use Rattle.indexmap.specs.IndexMap.{get}
use Rattle.san_tree.specs.inner.Shared.{or_else, same_part}
use Rattle.san_tree.proofs.shared.note_share.Given as goal

abbrev pub invariant-parts : goal.invariant-parts
invariant-parts l = (k c p : ℕ) → get same_part l.table (k, c, p) ≡ or_else (get same_part l.fn.table (k, c, p)) (cond (nat_eq l.node k && list_any (λ x. nat_eq x.0 c && nat_eq x.1 p) (take l.part-index l.share.parts)) (Some l.place) None)
