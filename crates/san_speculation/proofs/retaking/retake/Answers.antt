use Rattle.std.proofs.Common.{ℕ, List, Option, Some, ap, arith, length, map, sym, ◌∙◌}
use Rattle.std.proofs.lemmas.List.{length-set}
use Rattle.san_law.specs.Piece as law
use Rattle.san_net.specs.Network.{Network}
use Rattle.san_speculation.specs.inner.Soonest.{touched_all}
use Rattle.san_speculation.proofs.Lows.{anew_places, falls_low, stays_low}
use Rattle.san_speculation.proofs.Nexts.{leaf_within}
use Rattle.san_leaf.specs.States.{pair_in}
use Rattle.san_speculation.proofs.Redos.{chain_fit, chain_there, counter_small, counter_there, falls_here, state_there, stays_here, values_here, writes_here}
use Rattle.san_speculation.proofs.Speculated.{is_run}
use Rattle.san_speculation.proofs.retaking.retake.Goals as goal

pub commit-requires-clause-fit : goal.commit-requires-clause-fit
commit-requires-clause-fit c = writes_here c.args.machine.now c.follows.ensures (is_run c.network.result.now c.args.machine.now.network c.network.ensures c.is_network.ensures.network c.is_network.ensures.lawful c.is_network.ensures.laid c.is_network.ensures.shared c.is_network.ensures.private) c.args.taking c.requires.need c.args.piece c.requires.needed c.is_sound.ensures c.args.ahead.now c.requires.whole (omega (arith, c.requires.sizes)) c.take-written.new.self c.take-written.ensures.taken c.follows-2.ensures (map pair_in c.deref-2.result.now) (ap (map pair_in) c.deref-2.ensures.value ∙ c.take-written.ensures.written)

pub commit-requires-clause-sized : goal.commit-requires-clause-sized
commit-requires-clause-sized c = values_here c.args.machine.now c.follows.ensures (is_run c.network.result.now c.args.machine.now.network c.network.ensures c.is_network.ensures.network c.is_network.ensures.lawful c.is_network.ensures.laid c.is_network.ensures.shared c.is_network.ensures.private) c.args.taking c.requires.need c.args.piece c.requires.needed c.is_sound.ensures c.args.ahead.now c.requires.whole (omega (arith, c.requires.sizes)) c.take-written.new.self c.take-written.ensures.taken c.follows-2.ensures c.shared.result.now c.shared.ensures

pub raise-requires-clause-leaf : goal.raise-requires-clause-leaf
raise-requires-clause-leaf c = counter_there c.args.machine.now c.follows.ensures (is_run c.network.result.now c.args.machine.now.network c.network.ensures c.is_network.ensures.network c.is_network.ensures.lawful c.is_network.ensures.laid c.is_network.ensures.shared c.is_network.ensures.private) c.args.taking c.requires.need c.args.piece c.requires.needed c.is_sound.ensures c.args.ahead.now c.requires.whole (omega (arith, c.requires.sizes)) c.take-written.new.self c.take-written.ensures.taken c.follows-2.ensures c.commit.new.self c.shared.result.now (map pair_in c.deref-2.result.now) c.shared.ensures (ap (map pair_in) c.deref-2.ensures.value ∙ c.take-written.ensures.written) c.commit.ensures

pub raise-requires-clause-few : goal.raise-requires-clause-few
raise-requires-clause-few c = counter_small c.args.machine.now c.follows.ensures (is_run c.network.result.now c.args.machine.now.network c.network.ensures c.is_network.ensures.network c.is_network.ensures.lawful c.is_network.ensures.laid c.is_network.ensures.shared c.is_network.ensures.private) c.args.taking c.requires.need c.args.piece c.requires.needed c.is_sound.ensures c.args.ahead.now c.requires.whole (omega (arith, c.requires.sizes)) c.take-written.new.self c.take-written.ensures.taken c.follows-2.ensures c.commit.new.self c.shared.result.now (map pair_in c.deref-2.result.now) c.shared.ensures (ap (map pair_in) c.deref-2.ensures.value ∙ c.take-written.ensures.written) c.commit.ensures c.requires.few

pub falls-requires-clause-chain : goal.falls-requires-clause-chain
falls-requires-clause-chain c = chain_there c.args.machine.now c.follows.ensures (is_run c.network.result.now c.args.machine.now.network c.network.ensures c.is_network.ensures.network c.is_network.ensures.lawful c.is_network.ensures.laid c.is_network.ensures.shared c.is_network.ensures.private) c.args.taking c.requires.need c.args.piece c.requires.needed c.is_sound.ensures c.args.ahead.now c.requires.whole (omega (arith, c.requires.sizes)) c.take-written.new.self c.take-written.ensures.taken c.follows-2.ensures c.commit.new.self c.shared.result.now (map pair_in c.deref-2.result.now) c.shared.ensures (ap (map pair_in) c.deref-2.ensures.value ∙ c.take-written.ensures.written) c.commit.ensures c.raise.new.self c.raise.ensures

pub falls-requires-clause-state : goal.falls-requires-clause-state
falls-requires-clause-state c = state_there c.args.machine.now c.follows.ensures (is_run c.network.result.now c.args.machine.now.network c.network.ensures c.is_network.ensures.network c.is_network.ensures.lawful c.is_network.ensures.laid c.is_network.ensures.shared c.is_network.ensures.private) c.args.taking c.requires.need c.args.piece c.requires.needed c.is_sound.ensures c.args.ahead.now c.requires.whole (omega (arith, c.requires.sizes)) c.take-written.new.self c.take-written.ensures.taken c.follows-2.ensures c.commit.new.self c.shared.result.now (map pair_in c.deref-2.result.now) c.shared.ensures (ap (map pair_in) c.deref-2.ensures.value ∙ c.take-written.ensures.written) c.commit.ensures c.raise.new.self c.raise.ensures

pub cut-requires-clause-leaf : goal.cut-requires-clause-leaf
cut-requires-clause-leaf c = chain_there c.args.machine.now c.follows.ensures (is_run c.network.result.now c.args.machine.now.network c.network.ensures c.is_network.ensures.network c.is_network.ensures.lawful c.is_network.ensures.laid c.is_network.ensures.shared c.is_network.ensures.private) c.args.taking c.requires.need c.args.piece c.requires.needed c.is_sound.ensures c.args.ahead.now c.requires.whole (omega (arith, c.requires.sizes)) c.take-written.new.self c.take-written.ensures.taken c.follows-2.ensures c.commit.new.self c.shared.result.now (map pair_in c.deref-2.result.now) c.shared.ensures (ap (map pair_in) c.deref-2.ensures.value ∙ c.take-written.ensures.written) c.commit.ensures c.raise.new.self c.raise.ensures

pub cut-requires-clause-fit : goal.cut-requires-clause-fit
cut-requires-clause-fit c = chain_fit c.args.machine.now c.follows.ensures (is_run c.network.result.now c.args.machine.now.network c.network.ensures c.is_network.ensures.network c.is_network.ensures.lawful c.is_network.ensures.laid c.is_network.ensures.shared c.is_network.ensures.private) c.args.taking c.requires.need c.args.piece c.requires.needed c.is_sound.ensures c.args.ahead.now c.requires.whole (omega (arith, c.requires.sizes)) c.take-written.new.self c.take-written.ensures.taken c.follows-2.ensures c.commit.new.self c.shared.result.now (map pair_in c.deref-2.result.now) c.shared.ensures (ap (map pair_in) c.deref-2.ensures.value ∙ c.take-written.ensures.written) c.commit.ensures c.raise.new.self c.raise.ensures

pub returns-then-falls-clause-redone : goal.returns-then-falls-clause-redone
returns-then-falls-clause-redone c = falls_here c.args.machine.now c.follows.ensures (is_run c.network.result.now c.args.machine.now.network c.network.ensures c.is_network.ensures.network c.is_network.ensures.lawful c.is_network.ensures.laid c.is_network.ensures.shared c.is_network.ensures.private) c.args.taking c.requires.need c.args.piece c.requires.needed c.is_sound.ensures c.args.ahead.now c.requires.whole (omega (arith, c.requires.sizes)) c.take-written.new.self c.take-written.ensures.taken c.follows-2.ensures c.commit.new.self c.shared.result.now (map pair_in c.deref-2.result.now) c.shared.ensures (ap (map pair_in) c.deref-2.ensures.value ∙ c.take-written.ensures.written) c.commit.ensures c.raise.new.self c.raise.ensures (sym c.falls.ensures ∙ c.if-falls.true) c.cut.new.self c.cut.ensures

pub returns-clause-redone : goal.returns-clause-redone
returns-clause-redone c = stays_here c.args.machine.now c.follows.ensures (is_run c.network.result.now c.args.machine.now.network c.network.ensures c.is_network.ensures.network c.is_network.ensures.lawful c.is_network.ensures.laid c.is_network.ensures.shared c.is_network.ensures.private) c.args.taking c.requires.need c.args.piece c.requires.needed c.is_sound.ensures c.args.ahead.now c.requires.whole (omega (arith, c.requires.sizes)) c.take-written.new.self c.take-written.ensures.taken c.follows-2.ensures c.commit.new.self c.shared.result.now (map pair_in c.deref-2.result.now) c.shared.ensures (ap (map pair_in) c.deref-2.ensures.value ∙ c.take-written.ensures.written) c.commit.ensures c.raise.new.self c.raise.ensures (sym c.falls.ensures ∙ c.if-falls.false)

pub touch-requires : goal.touch-requires
touch-requires c = let l = leaf_within c.args.machine.now c.follows.ensures c.args.ahead.now c.args.taking c.requires.need in omega (arith, l, c.requires.keys)

pub touch_written-requires-clause-places : goal.touch_written-requires-clause-places
touch_written-requires-clause-places c = anew_places c.args.machine.now c.follows.ensures (is_run c.network.result.now c.args.machine.now.network c.network.ensures c.is_network.ensures.network c.is_network.ensures.lawful c.is_network.ensures.laid c.is_network.ensures.shared c.is_network.ensures.private) c.args.taking c.requires.need c.args.piece c.requires.needed c.is_sound.ensures c.args.ahead.now c.requires.whole c.deref.result.now (ap (map pair_in) c.deref.ensures.value ∙ ap (λ (o : law.Outcome). o.writes) c.outcome.ensures.same) c.network-2.result.now c.network-2.ensures

pub touch_written-requires-clause-keys : goal.touch_written-requires-clause-keys
touch_written-requires-clause-keys c = ap (λ (ks : List (Option ℕ)). length ks) c.touch.ensures ∙ (length-set c.args.soonest.now c.args.taking.leaf.0 (Some 0) ∙ (c.requires.keys ∙ ap (λ (n : Network). length n.parts) (sym c.network-2.ensures)))

pub returns-then-falls-clause-low : goal.returns-then-falls-clause-low
returns-then-falls-clause-low c = falls_low c.args.machine.now c.follows.ensures (is_run c.network.result.now c.args.machine.now.network c.network.ensures c.is_network.ensures.network c.is_network.ensures.lawful c.is_network.ensures.laid c.is_network.ensures.shared c.is_network.ensures.private) c.args.taking c.requires.need c.args.piece c.requires.needed c.is_sound.ensures c.args.ahead.now c.requires.whole c.deref.result.now (ap (map pair_in) c.deref.ensures.value ∙ ap (λ (o : law.Outcome). o.writes) c.outcome.ensures.same) c.network-2.result.now c.network-2.ensures c.requires.sizes c.take-written.new.self c.take-written.ensures.taken c.follows-2.ensures c.commit.new.self c.raise.new.self c.shared.result.now (map pair_in c.deref-2.result.now) c.commit.ensures (ap (map pair_in) c.deref-2.ensures.value ∙ c.take-written.ensures.written) c.raise.ensures c.args.soonest.now c.touch_written.new.soonest (c.touch_written.ensures ∙ ap (touched_all c.network-2.result.now.parts c.deref.result.now) c.touch.ensures) c.cut.new.self c.cut.ensures

pub returns-clause-low : goal.returns-clause-low
returns-clause-low c = stays_low c.args.machine.now c.follows.ensures (is_run c.network.result.now c.args.machine.now.network c.network.ensures c.is_network.ensures.network c.is_network.ensures.lawful c.is_network.ensures.laid c.is_network.ensures.shared c.is_network.ensures.private) c.args.taking c.requires.need c.args.piece c.requires.needed c.is_sound.ensures c.args.ahead.now c.requires.whole c.deref.result.now (ap (map pair_in) c.deref.ensures.value ∙ ap (λ (o : law.Outcome). o.writes) c.outcome.ensures.same) c.network-2.result.now c.network-2.ensures c.requires.sizes c.take-written.new.self c.take-written.ensures.taken c.follows-2.ensures c.commit.new.self c.raise.new.self c.shared.result.now (map pair_in c.deref-2.result.now) c.commit.ensures (ap (map pair_in) c.deref-2.ensures.value ∙ c.take-written.ensures.written) c.raise.ensures c.args.soonest.now c.touch_written.new.soonest (c.touch_written.ensures ∙ ap (touched_all c.network-2.result.now.parts c.deref.result.now) c.touch.ensures)
