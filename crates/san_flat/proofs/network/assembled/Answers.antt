use Rattle.std.proofs.Common.{◌≡◌, ◌∙◌, sym, subst}
use Rattle.std.specs.Prelude.{IfOk}
use Rattle.san_flat.proofs.AssembledLemmas.{all_among, network-is}
use Rattle.san_flat.proofs.SightingLemmas.{counts_even, counts_few, few-places}
use Rattle.san_flat.specs.inner.Models.{homes_of, values_of}
use Rattle.san_net.specs.Laid.{IsNetwork}
use Rattle.san_flat.proofs.network.assembled.Goals as goal

pub places_of-requires-clause-few : goal.places_of-requires-clause-few
places_of-requires-clause-few c = counts_few (homes_of c.args.model.now) (values_of c.args.model.now) c.args.seen c.requires.seen.0 c.requires.seen.1

pub places_of-requires-clause-even : goal.places_of-requires-clause-even
places_of-requires-clause-even c = counts_even (homes_of c.args.model.now) (values_of c.args.model.now) c.args.seen c.requires.seen.0

pub parts_of-requires-clause-among : goal.parts_of-requires-clause-among
parts_of-requires-clause-among c = all_among c.args.model.now c.args.leaves.now c.requires.leaves

pub assemble-requires : goal.assemble-requires
assemble-requires c =
    let m = c.args.model.now in
    let s = c.requires.seen in
    let numbers = c.in_ok-numbers.ensures.numbers (homes_of m) (values_of m) s.0 in
    let initial = c.in_ok-numbers.ensures.initial (homes_of m) (values_of m) s.0 in
    let is = network-is m c.args.leaves.now c.in_ok-parts.parts.items c.in_ok-paths.paths.items c.in_ok-numbers.initial.items c.in_ok-numbers.numbers.shared c.in_ok-rewards.rewards.items c.requires.leaves c.in_ok-parts.ensures c.in_ok-paths.ensures initial numbers.shared (c.in_ok-rewards.ensures ∙ c.rewards.ensures) in
    subst IsNetwork (sym is) (c.leaves_are_known.ensures.network c.requires.few (few-places (homes_of m) (values_of m) c.args.seen s.0 s.1) c.requires.acts)

pub returns : goal.returns
returns c =
    let m = c.args.model.now in
    let s = c.requires.seen in
    let numbers = c.in_ok-numbers.ensures.numbers (homes_of m) (values_of m) s.0 in
    let initial = c.in_ok-numbers.ensures.initial (homes_of m) (values_of m) s.0 in
    let is = network-is m c.args.leaves.now c.in_ok-parts.parts.items c.in_ok-paths.paths.items c.in_ok-numbers.initial.items c.in_ok-numbers.numbers.shared c.in_ok-rewards.rewards.items c.requires.leaves c.in_ok-parts.ensures c.in_ok-paths.ensures initial numbers.shared (c.in_ok-rewards.ensures ∙ c.rewards.ensures) in
    subst (λ n. IfOk c.assemble.result (λ flat. flat ≡ n)) is c.assemble.ensures
