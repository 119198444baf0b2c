use Rattle.std.proofs.Common.{ap, sym, ◌∙◌, [], set, map}
use Rattle.std.proofs.lemmas.List.{get_or-map, map-set}
use Rattle.std.specs.Vec.{with_item}
use Rattle.san_reward.proofs.leaves.put_rate.Goals as goal

pub returns-clause-after : goal.returns-clause-after
returns-clause-after c =
    let vec = c.index_mut-of_leaf.result.now in
    let old = get_or-map (λ v. v.items) c.args.rates.now.items c.args.leaf vec [] c.requires.leaf ∙ ap (λ v. v.items) (sym c.index_mut-of_leaf.ensures.value) in
    map-set (λ v. v.items) c.args.rates.now.items c.args.leaf (with_item vec c.args.term c.args.new) ∙ ap (λ ws. set (map (λ v. v.items) c.args.rates.now.items) c.args.leaf (set ws c.args.term c.args.new)) (sym old)
