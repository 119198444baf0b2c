use Rattle.std.proofs.Common.{◌∙◌, ◌+◌, ◌*◌, ap, refl, sym, ℕ, Result, slice_index}
use Rattle.san_base.specs.declared.ending.Trap.{Trap}
use Rattle.san_draw.specs.Key.{draw_of}
use Rattle.san_law.specs.State.{gather}
use Rattle.san_net.specs.Laid.{places_of}
use Rattle.san_net.specs.Leaf.{completed_in}
use Rattle.san_seq.specs.inner.Completions.{completed_by}
use Rattle.san_seq.proofs.CompletionLemmas.{as_many_cells, completes, traps}
use Rattle.san_seq.proofs.LeafCompletionLemmas.{counted_same, done_is, not_counted, sized_is}
use Rattle.san_seq.proofs.NextLemmas.{cut}
use Rattle.san_seq.proofs.completion.complete_leaf.Goals as goal

pub store-requires-clause-each : goal.store-requires-clause-each
store-requires-clause-each c =
    let p = c.args.part.now in
    let m = c.args.marking.now in
    let slots = c.as_slice-slots.result.now in
    let at = cut p.atomic.acts c.args.act c.requires.act in
    let u = draw_of c.args.streams.now.seed (2 * (p.first.0 + c.args.act) + 1) (slice_index c.args.row.now.cases c.args.act) in
    let did = c.complete_act.ensures.done at.0 at.1 in
    as_many_cells p slots m c.load.new.self c.complete_act.new.view c.as_slice-slots.ensures c.load.ensures at.0.1 u c.complete_act.result did

pub returns-in-Ok-clause-done : goal.returns-in-Ok-clause-done
returns-in-Ok-clause-done c =
    let p = c.args.part.now in
    let m = c.args.marking.now in
    let slots = c.as_slice-slots.result.now in
    let at = cut p.atomic.acts c.args.act c.requires.act in
    let u = draw_of c.args.streams.now.seed (2 * (p.first.0 + c.args.act) + 1) (slice_index c.args.row.now.cases c.args.act) in
    let did = c.complete_act.ensures.done at.0 at.1 in
    let is = completes p slots m c.load.new.self c.complete_act.new.view c.as_slice-slots.ensures c.load.ensures at.0.1 u c.complete_act.result did c.in-Ok.case c.store.new.marking c.in-Ok.is c.store.ensures in
    ap (λ (x : Result ℕ Trap). completed_by x c.store.new.marking c.complete_act.new.row) (sym c.in-Ok.is)
    ∙ ap (completed_by c.complete_act.result c.store.new.marking) c.complete_act.ensures.row ∙ counted_same c.complete_act.result c.store.new.marking c.args.row.now c.args.act
    ∙ done_is p (draw_of c.args.streams.now.seed) c.args.act u m c.store.new.marking c.args.row.now at.0 c.complete_act.result at.1 refl is

pub returns-in-Ok-clause-sized : goal.returns-in-Ok-clause-sized
returns-in-Ok-clause-sized c =
    let p = c.args.part.now in
    let m = c.args.marking.now in
    let slots = c.as_slice-slots.result.now in
    let at = cut p.atomic.acts c.args.act c.requires.act in
    let u = draw_of c.args.streams.now.seed (2 * (p.first.0 + c.args.act) + 1) (slice_index c.args.row.now.cases c.args.act) in
    let did = c.complete_act.ensures.done at.0 at.1 in
    let is = completes p slots m c.load.new.self c.complete_act.new.view c.as_slice-slots.ensures c.load.ensures at.0.1 u c.complete_act.result did c.in-Ok.case c.store.new.marking c.in-Ok.is c.store.ensures in
    sized_is (places_of p) m c.store.new.marking c.complete_act.result (completed_in at.0.1 u (gather (places_of p) m)) is

pub returns-in-Err-clause-done : goal.returns-in-Err-clause-done
returns-in-Err-clause-done c =
    let p = c.args.part.now in
    let m = c.args.marking.now in
    let slots = c.as_slice-slots.result.now in
    let at = cut p.atomic.acts c.args.act c.requires.act in
    let u = draw_of c.args.streams.now.seed (2 * (p.first.0 + c.args.act) + 1) (slice_index c.args.row.now.cases c.args.act) in
    let did = c.complete_act.ensures.done at.0 at.1 in
    let is = traps p slots m c.load.new.self c.complete_act.new.view c.as_slice-slots.ensures c.load.ensures at.0.1 u c.complete_act.result did c.in-Err.trap c.in-Err.is in
    ap (λ (x : Result ℕ Trap). completed_by x m c.complete_act.new.row) (sym c.in-Err.is)
    ∙ ap (completed_by c.complete_act.result m) c.complete_act.ensures.row ∙ counted_same c.complete_act.result m c.args.row.now c.args.act
    ∙ done_is p (draw_of c.args.streams.now.seed) c.args.act u m m c.args.row.now at.0 c.complete_act.result at.1 refl is

pub returns-in-Err-clause-trap : goal.returns-in-Err-clause-trap
returns-in-Err-clause-trap c = (refl, not_counted c.complete_act.result c.in-Err.trap c.args.row.now c.complete_act.new.row c.args.act c.in-Err.is c.complete_act.ensures.row)
