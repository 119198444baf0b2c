use Rattle.std.proofs.Common.{◌≡◌, [], map, replicate}
use Rattle.san_seq.proofs.bands.empty_lists.Given as goal

abbrev pub invariant-places : goal.invariant-places
invariant-places l = map (λ x. x.items) l.table.items ≡ replicate l.counter []
