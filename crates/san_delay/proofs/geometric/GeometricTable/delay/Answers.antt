use Rattle.std.proofs.Common.{rules, arith, ltb, sym, subst, ◌≡◌, ◌+◌}
use Rattle.std.proofs.lemmas.List.Sorted.{IsPartitionPoint-from_clause}
use Rattle.san_delay.specs.Series.{IsSeries}
use Rattle.san_delay.proofs.KeptLemmas.{parted, searched}
use Rattle.san_delay.proofs.SeriesLemmas.{geometric-within}
use Rattle.san_expr.specs.Delay.{geometric}
use Rattle.san_delay.proofs.geometric.GeometricTable.delay.Goals as goal

found : (c : goal.After-partition_point) → c.partition_point.result + 1 ≡ geometric c.args.self.now.p c.args.self.now.q c.args.u
found c =
    let p = c.args.self.now.p in
    let q = c.args.self.now.q in
    let series = subst (IsSeries p q) (sym c.deref.ensures.value) c.args.self.now.series in
    let point = IsPartitionPoint-from_clause (λ left. ltb c.args.u left) _ _ c.partition_point.ensures.partitioned (parted p q _ c.requires series c.args.u) (λ a r f k. search rules) in
    searched p q _ c.requires series c.args.u c.partition_point.result point c.partition_point.ensures.bound

pub returns-clause-value : goal.returns-clause-value
returns-clause-value c = found c

pub returns-clause-within : goal.returns-clause-within
returns-clause-within c = (omega arith, omega (arith, found c, geometric-within c.args.self.now.p c.args.self.now.q c.args.u c.requires))
