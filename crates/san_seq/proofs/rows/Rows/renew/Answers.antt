use Rattle.std.proofs.Common.{arith, ◌∙◌, ◌+◌, ◌<◌, ◌≡◌, ◌≤◌, sym, ap, subst, length, map, All, List, slice_set}
use Rattle.san_clock.specs.Rows.{renewing_by}
use Rattle.san_draw.specs.Key.{draw_of}
use Rattle.san_law.specs.Net.{Row}
use Rattle.san_law.specs.Renewal.{renewed_at}
use Rattle.san_net.specs.Network.{net_of}
use Rattle.san_seq.specs.inner.Rows.{IsRowOf, row_at}
use Rattle.san_seq.specs.inner.Dues.{AreDues, first_due}
use Rattle.san_base.specs.declared.limits.TheConstants.{MAX_ACTS}
use Rattle.san_seq.proofs.DueLemmas.{dues_set, dues_sized, others_sized, put_there, was_there}
use Rattle.san_seq.proofs.RangeLemmas.{rows_small}
use Rattle.san_seq.proofs.rows.Rows.renew.Goals as goal

pub renew_at-done-requires-clause-row : goal.renew_at-done-requires-clause-row
renew_at-done-requires-clause-row c = λ p is.
    let row = c.index_mut-row.result.now in
    let h : c.args.leaf.0 < length c.args.self.now = omega (arith, c.requires.leaf, c.requires.rows.each) in
    subst (λ (r : Row). IsRowOf p r) (sym (was_there c.self.inside.rows.items c.args.self.now c.args.leaf.0 row row c.index_mut-row.ensures.value c.self.view_is h)) (c.requires.rows.fit c.args.leaf.0 p is)

pub follow-requires-clause-small : goal.follow-requires-clause-small
follow-requires-clause-small c =
    let row = c.index_mut-row.result.now in
    let h : c.args.leaf.0 < length c.args.self.now = omega (arith, c.requires.leaf, c.requires.rows.each) in
    let was = was_there c.self.inside.rows.items c.args.self.now c.args.leaf.0 row row c.index_mut-row.ensures.value c.self.view_is h in
    let long : length c.renew_at-done.new.row.timers ≡ length (row_at c.args.self.now c.args.leaf.0).timers =
    c.renew_at-done.ensures.like.timers ∙ ap (λ (r : Row). length r.timers) was in
    omega (arith, long, rows_small c.args.flat.now c.args.self.now c.is_network.ensures.network c.requires.rows c.args.leaf.0)

pub catch_up_others-requires-clause-dues : goal.catch_up_others-requires-clause-dues
catch_up_others-requires-clause-dues c = subst (λ (rs : List Row). AreDues c.self.inside.behind c.self.inside.dues rs) (sym c.deref.ensures.value) c.self.invariant

pub catch_up_others-requires-clause-sized : goal.catch_up_others-requires-clause-sized
catch_up_others-requires-clause-sized c = dues_sized c.self.inside.behind c.self.inside.dues c.self.inside.rows.items c.self.invariant ∙ ap length (sym c.deref.ensures.value)

pub catch_up_others-requires-clause-small : goal.catch_up_others-requires-clause-small
catch_up_others-requires-clause-small c = λ j.
    subst (λ (rs : List Row). length (row_at rs j).timers ≤ MAX_ACTS) (sym (c.deref.ensures.value ∙ c.self.view_is)) (rows_small c.args.flat.now c.args.self.now c.is_network.ensures.network c.requires.rows j)

pub follow-requires-clause-leaf : goal.follow-requires-clause-leaf
follow-requires-clause-leaf c =
    let long = others_sized c.args.leaf.0 c.catch_up_others.new.dues c.deref.result.now c.catch_up_others.ensures in
    omega (arith, long, ap length (c.deref.ensures.value ∙ c.self.view_is), c.requires.leaf, c.requires.rows.each)

pub invariant_of-self : goal.invariant_of-self
invariant_of-self c =
    c.follow.ensures
    ∙ dues_set c.args.leaf.0 c.catch_up_others.new.dues c.self.inside.rows.items c.renew_at-done.new.row
    (λ due. c.catch_up_others.ensures due ∙ ap (λ (rs : List Row). slice_set (map first_due rs) c.args.leaf.0 due) c.deref.ensures.value)

pub returns-clause-row : goal.returns-clause-row
returns-clause-row c = λ limits s clock seen now.
    let row = c.index_mut-row.result.now in
    let h : c.args.leaf.0 < length c.args.self.now = omega (arith, c.requires.leaf, c.requires.rows.each) in
    ap (renewing_by c.renew_at-done.result) (put_there c.self.inside.rows.items c.args.self.now c.args.leaf.0 row c.renew_at-done.new.row c.index_mut-row.ensures.value c.self.view_is h)
    ∙ c.renew_at-done.ensures.row limits s clock seen now
    ∙ ap (renewed_at (net_of c.args.flat.now (draw_of c.args.streams.now.seed) limits) s c.args.leaf.0)
    (was_there c.self.inside.rows.items c.args.self.now c.args.leaf.0 row row c.index_mut-row.ensures.value c.self.view_is h)

pub returns-clause-numbers : goal.returns-clause-numbers
returns-clause-numbers c = λ most before.
    let row = c.index_mut-row.result.now in
    let h : c.args.leaf.0 < length c.args.self.now = omega (arith, c.requires.leaf, c.requires.rows.each) in
    subst (λ (r : Row). All (λ n. n ≤ most + 1) r.delays)
    (sym (put_there c.self.inside.rows.items c.args.self.now c.args.leaf.0 row c.renew_at-done.new.row c.index_mut-row.ensures.value c.self.view_is h))
    (c.renew_at-done.ensures.numbers most
    (subst (λ (r : Row). All (λ n. n ≤ most) r.delays) (sym (was_there c.self.inside.rows.items c.args.self.now c.args.leaf.0 row row c.index_mut-row.ensures.value c.self.view_is h)) before))
