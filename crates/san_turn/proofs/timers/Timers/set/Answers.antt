use Rattle.std.proofs.Common.{◌∙◌, ap, arith, slice_set, sym}
use Rattle.san_turn.specs.inner.Timed.{TimersValue, with_due}
use Rattle.san_turn.proofs.Timed.{long_as, set_none, set_some, value}
use Rattle.san_turn.proofs.timers.Timers.set.Goals as goal

pub set-requires : goal.set-requires
set-requires c =
    let same = long_as c.self.inside.firsts.items c.self.inside.acts.items c.self.inside.keys c.args.self.now c.self.view_is in
    record { at = omega (arith, c.requires, same) }

pub set-requires-in-Some : goal.set-requires-in-Some
set-requires-in-Some c =
    let same = long_as c.self.inside.firsts.items c.self.inside.acts.items c.self.inside.keys c.args.self.now c.self.view_is in
    record { at = omega (arith, c.requires, same) }

pub index_mut-requires : goal.index_mut-requires
index_mut-requires c =
    let same = long_as c.self.inside.firsts.items c.self.inside.acts.items c.self.inside.keys c.args.self.now c.self.view_is in
    omega (arith, c.requires, same, c.self.invariant.keyed_each, c.self.invariant.timed_each)

pub returns-in-None : goal.returns-in-None
returns-in-None c =
    let fs = c.self.inside.firsts.items in
    let acts = c.self.inside.acts.items in
    let same = long_as fs acts c.self.inside.keys c.args.self.now c.self.view_is in
    ap (value fs acts) c.set.ensures
    ∙ set_none fs acts c.self.inside.keys c.args.leaf.0 (omega (arith, c.requires, same))
    ∙ ap (with_due (value fs acts c.self.inside.keys) c.args.leaf.0) (sym c.in-None.is)
    ∙ ap (λ (t : TimersValue). with_due t c.args.leaf.0 c.args.due) c.self.view_is

pub returns-in-Some : goal.returns-in-Some
returns-in-Some c =
    let fs = c.self.inside.firsts.items in
    let acts = c.self.inside.acts.items in
    let same = long_as fs acts c.self.inside.keys c.args.self.now c.self.view_is in
    ap (value fs (slice_set acts c.args.leaf.0 c.in-Some.act.0)) c.set-in-Some.ensures
    ∙ set_some fs acts c.self.inside.keys c.args.leaf.0 (c.in-Some.time, c.in-Some.act) (omega (arith, c.requires, same)) (omega (arith, c.requires, same, c.self.invariant.keyed_each, c.self.invariant.timed_each))
    ∙ ap (with_due (value fs acts c.self.inside.keys) c.args.leaf.0) (sym c.in-Some.is)
    ∙ ap (λ (t : TimersValue). with_due t c.args.leaf.0 c.args.due) c.self.view_is
