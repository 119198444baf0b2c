use Rattle.std.proofs.Common.{◌≡◌, ◌++◌, drop, map, All}
use Rattle.san_leaf.specs.Outcomes.{IsEventOf, act_in}
use Rattle.san_leaf.proofs.outcome.events.Given as goal

abbrev pub invariant-acts : goal.invariant-acts
invariant-acts l = (map (act_in l.first.0) l.events.items ++ drop l.act-index l.acts ≡ l.acts) × All (IsEventOf l.first.0 l.time.0) l.events.items
