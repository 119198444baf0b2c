use Rattle.std.proofs.Common.{ℕ, ◌∙◌, ap}
use Rattle.std.specs.Option.{option_map}
use Rattle.san_base.specs.declared.numbers.LeafId.{LeafId}
use Rattle.san_law.specs.Network as law
use Rattle.san_net.specs.Network.{net_of}
use Rattle.san_turn.specs.Changes.{OrderValue, after_taking}
use Rattle.san_turn.proofs.Blocks.{block_taken, built, ordered_after}
use Rattle.san_turn.proofs.order.Order.took.Goals as goal

pub returns-in-Fire : goal.returns-in-Fire
returns-in-Fire c draw limits =
    let net = net_of c.args.flat.now draw limits in
    let x = c.self.inside in
    block_taken net (built (option_map (λ (l : LeafId). l.0) x.going) x.unsettled x.stale x.timers x.time.0 x.horizon.0) c.args.leaf.0 c.args.taken.now
    (option_map (λ (l : LeafId). l.0) c.going_after-self-inside.result) c.spread.new.flags c.spread-in-Fire.new.flags c.set.new.self c.deref.result.now c.deref-in-Fire.result.now
    c.in-Fire.is c.going_after-self-inside.ensures (c.spread.ensures draw limits) c.deref.ensures.value (c.spread-in-Fire.ensures draw limits) c.deref-in-Fire.ensures.value c.set.ensures
    ∙ ap (λ (v : OrderValue). after_taking net v c.args.leaf.0 c.args.taken.now) c.self.view_is

pub invariant_of-self-in-Fire : goal.invariant_of-self-in-Fire
invariant_of-self-in-Fire c =
    let draw : ℕ → ℕ → ℕ = λ s k. 0 in
    let limits : law.Limits = record { horizon = 0; burst = 0; events = 0 } in
    let x = c.self.inside in
    ordered_after _ _ x.unsettled x.stale c.spread.new.flags c.spread-in-Fire.new.flags x.timers c.set.new.self c.args.leaf.0 c.args.taken.now.due c.self.invariant (c.spread.ensures draw limits) (c.spread-in-Fire.ensures draw limits) c.set.ensures
