use Rattle.std.proofs.Common.{◌∙◌, ◌<◌, ◌≤◌, ◌+◌, sym, ap, subst, length, map, ℕ, List, Option, All}
use Rattle.std.specs.Prelude.{IfErr}
use Rattle.std.specs.Option.{option_map}
use Rattle.std.proofs.lemmas.List.{with_items_is}
use Rattle.std.specs.Vec.{with_items}
use Rattle.san_clock.specs.Rows.{renewing_by, timer_in}
use Rattle.san_clock.specs.inner.Renewals.{ArePlaced, renewed_named}
use Rattle.san_clock.specs.declared.row.Timer.{Timer}
use Rattle.san_clock.proofs.RenewLemmas.{placed, row_is}
use Rattle.san_clock.proofs.renewal.renew.Goals as goal
use Rattle.san_draw.specs.Key.{draw_of}
use Rattle.san_net.specs.Instants.{Named}

pub renew_acts-requires-clause-accepted : goal.renew_acts-requires-clause-accepted
renew_acts-requires-clause-accepted g c =
    let cells = length (g.V.PlainView.values c.args.view.now) in
    subst (λ (acts : List Named). ArePlaced cells acts) (sym (c.as_slice.ensures ∙ ap (λ b. b.acts) c.get.ensures)) (placed c.args.part.now cells c.requires.accepted c.requires.each)

pub returns-clause-row : goal.returns-clause-row
returns-clause-row g c = λ seen same.
    let p = c.args.part.now in
    let draw = draw_of (g.D.DrawSource.seed c.args.draws.now) in
    let values = g.V.PlainView.values c.args.view.now in
    let time = c.args.renewal.now.time in
    let clocks =
    c.renew_acts.ensures.clocks seen same
    ∙ ap (λ (ts : List (Option Timer)). renewed_named draw p.first.0 time seen values 0 c.as_slice.result.now (map (option_map timer_in) ts) c.as_mut_slice-2.result.now) c.as_mut_slice.ensures.value
    ∙ ap (λ (ns : List ℕ). renewed_named draw p.first.0 time seen values 0 c.as_slice.result.now (map (option_map timer_in) c.row.inside.timers.items) ns) c.as_mut_slice-2.ensures.value in
    ap (λ (ts : List (Option Timer)). renewing_by c.renew_acts.result (record { timers = map (option_map timer_in) ts; delays = (with_items c.row.inside.delays c.renew_acts.new.delays).items; cases = c.row.inside.cases.items }))
    (with_items_is c.row.inside.timers c.renew_acts.new.timers (c.renew_acts.ensures.sized.0 ∙ c.as_mut_slice.ensures.len))
    ∙ ap (λ (ns : List ℕ). renewing_by c.renew_acts.result (record { timers = map (option_map timer_in) c.renew_acts.new.timers; delays = ns; cases = c.row.inside.cases.items }))
    (with_items_is c.row.inside.delays c.renew_acts.new.delays (c.renew_acts.ensures.sized.1 ∙ c.as_mut_slice-2.ensures.len))
    ∙ row_is p draw time seen values c.args.row.now c.renew_acts.result c.as_slice.result.now (map (option_map timer_in) c.row.inside.timers.items) (map (option_map timer_in) c.renew_acts.new.timers)
    c.row.inside.delays.items c.renew_acts.new.delays c.row.inside.cases.items (c.as_slice.ensures ∙ ap (λ b. b.acts) c.get.ensures) c.row.view_is clocks

pub returns-clause-numbers : goal.returns-clause-numbers
returns-clause-numbers g c = λ most all.
    subst (λ (ns : List ℕ). All (λ n. n ≤ most + 1) ns) (sym (with_items_is c.row.inside.delays c.renew_acts.new.delays (c.renew_acts.ensures.sized.1 ∙ c.as_mut_slice-2.ensures.len)))
    (c.renew_acts.ensures.numbers most (subst (λ (ns : List ℕ). All (λ n. n ≤ most) ns) (ap (λ r. r.delays) (sym c.row.view_is) ∙ sym c.as_mut_slice-2.ensures.value) all))

pub returns-clause-within : goal.returns-clause-within
returns-clause-within g c =
    subst (λ (acts : List Named). IfErr c.renew_acts.result (λ fault. fault.0 < length acts)) (c.as_slice.ensures ∙ ap (λ b. b.acts) c.get.ensures) c.renew_acts.ensures.within
