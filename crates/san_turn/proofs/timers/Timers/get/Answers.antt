use Rattle.std.proofs.Common.{◌≡◌, ◌-◌, ◌∙◌, ap, arith, Option, None, Some, ℕ, slice_index, slice_index_or}
use Rattle.std.proofs.lemmas.List.{get_or_default}
use Rattle.san_turn.specs.inner.Timed.{TimersValue}
use Rattle.san_turn.proofs.Timed.{get_is, long_as}
use Rattle.san_turn.proofs.timers.Timers.get.Goals as goal

pub get-requires : goal.get-requires
get-requires c =
    let same = long_as c.self.inside.firsts.items c.self.inside.acts.items c.self.inside.keys c.args.self.now c.self.view_is in
    record { at = omega (arith, c.requires, same) }

pub returns-in-None : goal.returns-in-None
returns-in-None c =
    let same = long_as c.self.inside.firsts.items c.self.inside.acts.items c.self.inside.keys c.args.self.now c.self.view_is in
    get_is c.self.inside.firsts.items c.self.inside.acts.items c.self.inside.keys c.args.leaf None (omega (arith, c.requires, same)) c.in-None.ensures
    ∙ ap (λ (t : TimersValue). slice_index_or t.dues c.args.leaf None) c.self.view_is

pub returns-in-Some : goal.returns-in-Some
returns-in-Some c =
    let fs = c.self.inside.firsts.items in
    let acts = c.self.inside.acts.items in
    let same = long_as fs acts c.self.inside.keys c.args.self.now c.self.view_is in
    let act : c.index.result.now ≡ slice_index acts c.args.leaf = c.index.ensures ∙ get_or_default acts c.args.leaf c.index.result.now 0 (omega (arith, c.requires, same, c.self.invariant.keyed_each, c.self.invariant.timed_each)) in
    let first : c.index-in-Some.result.now ≡ slice_index fs c.args.leaf = c.index-in-Some.ensures ∙ get_or_default fs c.args.leaf c.index-in-Some.result.now 0 (omega (arith, c.requires, same, c.self.invariant.keyed_each)) in
    ap (λ (a : ℕ). (let o : Option (ℕ × ℕ) = Some (c.in-Some.time, a) in o))
    (c.saturating_sub.ensures ∙ ap (λ (a : ℕ). a - c.index-in-Some.result.now) act ∙ ap (λ (f : ℕ). slice_index acts c.args.leaf - f) first)
    ∙ get_is fs acts c.self.inside.keys c.args.leaf (Some c.in-Some.time) (omega (arith, c.requires, same)) c.in-Some.ensures
    ∙ ap (λ (t : TimersValue). slice_index_or t.dues c.args.leaf None) c.self.view_is
