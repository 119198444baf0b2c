use Rattle.std.proofs.Common.{◌≡◌, ◌∙◌, ◌+◌, ap, arith, length}
use Rattle.std.proofs.lemmas.List.{length-replicate}
use Rattle.san_winner.proofs.TreeLemmas.{power_more, tree_none, leaves_none}
use Rattle.san_winner.proofs.winners.Winners.open.Goals as goal

pub doubling-preserved : goal.doubling-preserved
doubling-preserved c = record { some = omega (arith, c.doubling.invariant.some); small = omega arith; power = power_more _ c.doubling.invariant.power }

pub invariant_of-result : goal.invariant_of-result
invariant_of-result c = let i = c.doubling.invariant in
    let k = c.in_ok-keys.ensures in let n = c.in_ok-nodes.ensures in
    let a : length c.in_ok-keys.keys.items ≡ c.args.count = ap length k ∙ length-replicate _ _ in
    let b : length c.in_ok-nodes.nodes.items ≡ c.doubling.size + c.doubling.size = ap length n ∙ length-replicate _ _ in
    record { power = i.power; small = omega (arith, i.small); room = omega (arith, a); sized = b; tree = tree_none _ _ _ n; leaves = leaves_none _ _ _ _ _ n k }
