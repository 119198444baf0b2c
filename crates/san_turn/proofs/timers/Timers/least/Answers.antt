use Rattle.std.proofs.Common.{ℕ, ◌≡◌, ◌+◌, ◌-◌, ◌∙◌, ap, arith, sym, Option, Some, slice_index}
use Rattle.std.specs.Option.{option_map}
use Rattle.std.proofs.lemmas.List.{get_or_default}
use Rattle.san_law.specs.Renewal as law
use Rattle.san_turn.specs.declared.timers.Due.{Due}
use Rattle.san_turn.specs.inner.Timed.{TimersValue, due_in}
use Rattle.san_turn.proofs.Timed.{as_due, least_below, least_timed}
use Rattle.san_turn.proofs.timers.Timers.least.Goals as goal

pub returns-in-None : goal.returns-in-None
returns-in-None c =
    let fs = c.self.inside.firsts.items in
    let acts = c.self.inside.acts.items in
    ap (λ (w : Option (ℕ × ℕ)). option_map (due_in fs) (as_due fs acts w)) c.in-None.ensures
    ∙ ap (option_map (due_in fs)) (sym (least_timed fs acts 0 c.self.inside.keys))
    ∙ ap (λ (t : TimersValue). option_map (due_in t.firsts) (law.least_from 0 t.dues)) c.self.view_is

pub returns-in-Some : goal.returns-in-Some
returns-in-Some c =
    let fs = c.self.inside.firsts.items in
    let acts = c.self.inside.acts.items in
    let within = least_below c.self.inside.keys c.in-Some.time c.in-Some.leaf (sym c.in-Some.ensures) in
    let first : c.index.result.now ≡ slice_index fs c.in-Some.leaf = c.index.ensures ∙ get_or_default fs c.in-Some.leaf c.index.result.now 0 (omega (arith, within, c.self.invariant.keyed_each)) in
    let act : c.index-in-Some.result.now ≡ slice_index acts c.in-Some.leaf = c.index-in-Some.ensures ∙ get_or_default acts c.in-Some.leaf c.index-in-Some.result.now 0 (omega (arith, within, c.self.invariant.keyed_each, c.self.invariant.timed_each)) in
    ap (λ (a : ℕ). (let o : Option Due = Some (record { time = record { 0 = c.in-Some.time }; leaf = record { 0 = c.in-Some.leaf }; act = record { 0 = a } }) in o))
    (c.number_of.ensures ∙ ap (λ (f : ℕ). f + (c.index-in-Some.result.now - f)) first ∙ ap (λ (a : ℕ). slice_index fs c.in-Some.leaf + (a - slice_index fs c.in-Some.leaf)) act)
    ∙ ap (λ (w : Option (ℕ × ℕ)). option_map (due_in fs) (as_due fs acts w)) c.in-Some.ensures
    ∙ ap (option_map (due_in fs)) (sym (least_timed fs acts 0 c.self.inside.keys))
    ∙ ap (λ (t : TimersValue). option_map (due_in t.firsts) (law.least_from 0 t.dues)) c.self.view_is
