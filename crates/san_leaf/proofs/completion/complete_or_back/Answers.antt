use Rattle.std.proofs.Common.{◌≡◌, ◌∙◌, ap, arith, map, length, ℕ, List, Option}
use Rattle.std.proofs.lemmas.List.{length-map}
use Rattle.san_draw.specs.Key.{draw_of}
use Rattle.san_law.specs.Activity.{case_stream}
use Rattle.san_net.specs.Laid.{place_of}
use Rattle.san_net.specs.Leaf.{leaf_of}
use Rattle.std.specs.Prelude.{slice_get, slice_index}
use Rattle.san_leaf.specs.Blocks.{completed_by}
use Rattle.san_leaf.specs.inner.ViewStates.{Seeing, view_state_of}
use Rattle.san_leaf.proofs.BackLemmas.{act_done, back_there, done_there}
use Rattle.san_leaf.proofs.completion.complete_or_back.Goals as goal

pub returns-in-Ok-clause-meets : goal.returns-in-Ok-clause-meets
returns-in-Ok-clause-meets g c =
    let p = c.args.part.now in
    let u = draw_of (g.D.DrawSource.seed c.args.draws.now) (case_stream (leaf_of p) c.args.act) (slice_index c.args.row.now.cases c.args.act) in
    done_there (completed_by u (slice_get p.atomic.acts c.args.act)) c.in-Ok.case c.complete_act.result (view_state_of c.args.view.now) (view_state_of c.complete_act.new.view)
    (act_done p.atomic.acts c.args.act u (view_state_of c.args.view.now) (view_state_of c.complete_act.new.view) c.complete_act.result c.requires.act c.complete_act.ensures.done) c.in-Ok.is

pub returns-in-Err-clause-meets : goal.returns-in-Err-clause-meets
returns-in-Err-clause-meets g c =
    let p = c.args.part.now in
    let u = draw_of (g.D.DrawSource.seed c.args.draws.now) (case_stream (leaf_of p) c.args.act) (slice_index c.args.row.now.cases c.args.act) in
    let v = c.view-2.inside in
    let places = map place_of v.slots.now in
    back_there (completed_by u (slice_get p.atomic.acts c.args.act)) c.in-Err.trap c.complete_act.result c.args.view.now c.complete_act.new.view
    places v.own c.take_over-in-Err.new.self v.first (g.V.View.marking v.lent) (g.V.View.kept v.lent)
    (act_done p.atomic.acts c.args.act u (view_state_of c.args.view.now) (view_state_of c.complete_act.new.view) c.complete_act.result c.requires.act c.complete_act.ensures.done) c.in-Err.is
    c.view-2.view_is (c.take_over-in-Err.ensures ∙ c.take_over.ensures ∙ ap (λ (s : Seeing). s.own) c.view.view_is)

pub take_over-requires-in-Err : goal.take_over-requires-in-Err
take_over-requires-in-Err g c =
    let p = c.args.part.now in
    let u = draw_of (g.D.DrawSource.seed c.args.draws.now) (case_stream (leaf_of p) c.args.act) (slice_index c.args.row.now.cases c.args.act) in
    let did = act_done p.atomic.acts c.args.act u (view_state_of c.args.view.now) (view_state_of c.complete_act.new.view) c.complete_act.result c.requires.act c.complete_act.ensures.done in
    let v = c.view.inside in
    let w = c.view-2.inside in
    let held : length c.take_over.new.self ≡ length v.own = ap (λ (o : List (Option ℕ)). length o) c.take_over.ensures in
    let before : length (map place_of v.slots.now) ≡ length c.args.view.now.places = ap (λ (s : Seeing). length s.places) c.view.view_is in
    let after : length (map place_of w.slots.now) ≡ length c.complete_act.new.view.places = ap (λ (s : Seeing). length s.places) c.view-2.view_is in
    omega (arith, held, c.view.invariant.own, before, length-map v.slots.now place_of, did.places, after, length-map w.slots.now place_of, c.view-2.invariant.own)

pub invariant_of-view : goal.invariant_of-view
invariant_of-view g c =
    let p = c.args.part.now in
    let u = draw_of (g.D.DrawSource.seed c.args.draws.now) (case_stream (leaf_of p) c.args.act) (slice_index c.args.row.now.cases c.args.act) in
    let did = act_done p.atomic.acts c.args.act u (view_state_of c.args.view.now) (view_state_of c.complete_act.new.view) c.complete_act.result c.requires.act c.complete_act.ensures.done in
    let v = c.view.inside in
    let w = c.view-2.inside in
    let back : length c.take_over-in-Err.new.self ≡ length c.take_over.new.self = ap (λ (o : List (Option ℕ)). length o) c.take_over-in-Err.ensures in
    let held : length c.take_over.new.self ≡ length v.own = ap (λ (o : List (Option ℕ)). length o) c.take_over.ensures in
    let before : length (map place_of v.slots.now) ≡ length c.args.view.now.places = ap (λ (s : Seeing). length s.places) c.view.view_is in
    let after : length (map place_of w.slots.now) ≡ length c.complete_act.new.view.places = ap (λ (s : Seeing). length s.places) c.view-2.view_is in
    record {
      own = omega (arith, back, held, c.view.invariant.own, before, length-map v.slots.now place_of, did.places, after, length-map w.slots.now place_of);
      first = c.view-2.invariant.first;
    }
