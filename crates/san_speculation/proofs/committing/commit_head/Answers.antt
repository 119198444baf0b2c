use Rattle.std.proofs.Common.{ℕ, List, Option, Some, ap, arith, length, map, sym, ◌∙◌}
use Rattle.std.specs.Prelude.{slice_set}
use Rattle.san_net.specs.Network.{Network}
use Rattle.san_speculation.specs.inner.Soonest.{touched_all}
use Rattle.std.proofs.lemmas.List.{length-set}
use Rattle.san_law.specs.Piece as law
use Rattle.san_leaf.specs.States.{pair_in}
use Rattle.san_speculation.proofs.Soonests.{touched_all_long}
use Rattle.san_speculation.proofs.Lows.{head_low, head_places}
use Rattle.san_speculation.proofs.Commits.{chain_fits, is_needed, mid_fits, some_there, takes_head, values_fit}
use Rattle.san_speculation.proofs.Speculated.{is_run}
use Rattle.san_speculation.proofs.committing.commit_head.Goals as goal

pub pop-piece-requires-clause-leaf : goal.pop-piece-requires-clause-leaf
pop-piece-requires-clause-leaf c = c.requires.next.within

pub pop-piece-requires-clause-some : goal.pop-piece-requires-clause-some
pop-piece-requires-clause-some c = some_there c.args.machine.now c.follows.ensures (is_run c.network.result.now c.args.machine.now.network c.network.ensures c.is_network.ensures.network c.is_network.ensures.lawful c.is_network.ensures.laid c.is_network.ensures.shared c.is_network.ensures.private) c.args.ahead.now c.args.leaf c.requires.next c.requires.whole

pub pop-piece-requires-clause-fit : goal.pop-piece-requires-clause-fit
pop-piece-requires-clause-fit c = chain_fits c.args.machine.now c.follows.ensures (is_run c.network.result.now c.args.machine.now.network c.network.ensures c.is_network.ensures.network c.is_network.ensures.lawful c.is_network.ensures.laid c.is_network.ensures.shared c.is_network.ensures.private) c.args.ahead.now c.args.leaf c.requires.next c.requires.whole

pub take-written-requires-clause-needed : goal.take-written-requires-clause-needed
take-written-requires-clause-needed c = is_needed c.args.machine.now c.follows.ensures (is_run c.network.result.now c.args.machine.now.network c.network.ensures c.is_network.ensures.network c.is_network.ensures.lawful c.is_network.ensures.laid c.is_network.ensures.shared c.is_network.ensures.private) c.args.ahead.now c.args.leaf c.requires.next c.requires.whole c.pop-piece.result c.pop-piece.new.self c.pop-piece.ensures

pub commit-requires-clause-fit : goal.commit-requires-clause-fit
commit-requires-clause-fit c = mid_fits c.args.machine.now c.follows.ensures (is_run c.network.result.now c.args.machine.now.network c.network.ensures c.is_network.ensures.network c.is_network.ensures.lawful c.is_network.ensures.laid c.is_network.ensures.shared c.is_network.ensures.private) c.args.ahead.now c.args.leaf c.requires.next c.requires.whole c.pop-piece.result c.pop-piece.new.self c.pop-piece.ensures c.is_sound.ensures c.take-written.new.self c.take-written.ensures.taken c.follows-2.ensures (map pair_in c.deref-2.result.now) (ap (map pair_in) c.deref-2.ensures.value ∙ c.take-written.ensures.written)

pub commit-requires-clause-sized : goal.commit-requires-clause-sized
commit-requires-clause-sized c = values_fit c.args.machine.now c.follows.ensures (is_run c.network.result.now c.args.machine.now.network c.network.ensures c.is_network.ensures.network c.is_network.ensures.lawful c.is_network.ensures.laid c.is_network.ensures.shared c.is_network.ensures.private) c.args.ahead.now c.args.leaf c.requires.next c.requires.whole c.pop-piece.result c.pop-piece.new.self c.pop-piece.ensures c.is_sound.ensures c.take-written.new.self c.take-written.ensures.taken c.follows-2.ensures c.shared.result.now c.shared.ensures

pub returns-clause-taken : goal.returns-clause-taken
returns-clause-taken c =
    takes_head c.args.machine.now c.follows.ensures (is_run c.network.result.now c.args.machine.now.network c.network.ensures c.is_network.ensures.network c.is_network.ensures.lawful c.is_network.ensures.laid c.is_network.ensures.shared c.is_network.ensures.private) c.args.ahead.now c.args.leaf c.requires.next c.requires.whole c.pop-piece.result c.pop-piece.new.self c.pop-piece.ensures c.is_sound.ensures c.take-written.new.self c.take-written.ensures.taken c.follows-2.ensures c.requires.spare c.take-written.ensures.less c.commit.new.self c.shared.result.now (map pair_in c.deref-2.result.now) c.shared.ensures (ap (map pair_in) c.deref-2.ensures.value ∙ c.take-written.ensures.written) c.commit.ensures

pub touch-requires : goal.touch-requires
touch-requires c = let l = c.requires.next.within in omega (arith, l, c.requires.sizes, c.requires.keys)

pub touch_written-requires-clause-places : goal.touch_written-requires-clause-places
touch_written-requires-clause-places c = head_places c.args.machine.now c.follows.ensures (is_run c.network.result.now c.args.machine.now.network c.network.ensures c.is_network.ensures.network c.is_network.ensures.lawful c.is_network.ensures.laid c.is_network.ensures.shared c.is_network.ensures.private) c.args.ahead.now c.args.leaf c.requires.next c.requires.whole c.pop-piece.result c.pop-piece.new.self c.pop-piece.ensures c.deref.result.now (ap (map pair_in) c.deref.ensures.value ∙ ap (λ (o : law.Outcome). o.writes) c.outcome.ensures.same) c.network-2.result.now c.network-2.ensures

pub touch_written-requires-clause-keys : goal.touch_written-requires-clause-keys
touch_written-requires-clause-keys c = ap (λ (ks : List (Option ℕ)). length ks) c.touch.ensures ∙ (length-set c.args.soonest.now c.args.leaf.0 (Some 0) ∙ (c.requires.keys ∙ ap (λ (n : Network). length n.parts) (sym c.network-2.ensures)))

pub returns-clause-low : goal.returns-clause-low
returns-clause-low c =
    head_low c.args.machine.now c.follows.ensures (is_run c.network.result.now c.args.machine.now.network c.network.ensures c.is_network.ensures.network c.is_network.ensures.lawful c.is_network.ensures.laid c.is_network.ensures.shared c.is_network.ensures.private) c.args.ahead.now c.args.leaf c.requires.next c.requires.whole c.pop-piece.result c.pop-piece.new.self c.pop-piece.ensures c.deref.result.now (ap (map pair_in) c.deref.ensures.value ∙ ap (λ (o : law.Outcome). o.writes) c.outcome.ensures.same) c.network-2.result.now c.network-2.ensures c.is_sound.ensures c.take-written.new.self c.take-written.ensures.taken c.follows-2.ensures c.requires.sizes c.commit.new.self c.shared.result.now (map pair_in c.deref-2.result.now) c.commit.ensures (ap (map pair_in) c.deref-2.ensures.value ∙ c.take-written.ensures.written)
    c.args.soonest.now c.touch_written.new.soonest (c.touch_written.ensures ∙ ap (touched_all c.network-2.result.now.parts c.deref.result.now) c.touch.ensures)

pub returns-clause-keys : goal.returns-clause-keys
returns-clause-keys c =
    ap (λ (ks : List (Option ℕ)). length ks) (c.touch_written.ensures ∙ ap (touched_all c.network-2.result.now.parts c.deref.result.now) c.touch.ensures)
    ∙ (touched_all_long c.network-2.result.now.parts c.deref.result.now (slice_set c.args.soonest.now c.args.leaf.0 (Some 0)) ∙ length-set c.args.soonest.now c.args.leaf.0 (Some 0))
