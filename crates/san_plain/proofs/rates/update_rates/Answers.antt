use Rattle.std.proofs.Common.{◌++◌, ◌∙◌, ap, sym, subst, drop, length, map, take, List, ℕ, Some}
use Rattle.std.specs.List.{list_any}
use Rattle.san_net.specs.Laid.{place_of, places_of}
use Rattle.san_net.specs.declared.part.Part.{Part}
use Rattle.san_net.specs.declared.part.Slot.{Slot}
use Rattle.san_plain.specs.inner.Rates.{FollowsPlaces, differs_at}
use Rattle.san_plain.proofs.FollowLemmas.{all_new, all_rates, kept_caught, kept_same, none_new}
use Rattle.san_plain.proofs.RateLemmas.{follows_on}
use Rattle.san_plain.proofs.rates.update_rates.Goals as goal
use Rattle.san_law.specs.State.{gather, scatter}
use Rattle.san_net.specs.Cells.{LiesOver}
use Rattle.san_seq.proofs.CompletionLemmas.{refilled}
use Rattle.san_net.proofs.CellLemmas.{CaughtUp, copied}
use Rattle.san_net.proofs.PartLemmas.{lies_over}

pub copy_cells-requires-clause-over : goal.copy_cells-requires-clause-over
copy_cells-requires-clause-over c =
    subst (λ (ss : List Slot). LiesOver (map place_of ss) c.args.marking.now) (sym c.as_slice.ensures)
    (lies_over c.args.flat.now c.args.leaf.0 c.get-part.result.now (c.part.ensures ∙ ap (λ (p : Part). Some p) (sym c.get-part.ensures)) c.args.marking.now c.requires.marking c.is_network.ensures.laid)

pub returns-then-rate_others-clause-rates : goal.returns-then-rate_others-clause-rates
returns-then-rate_others-clause-rates c =
    let n = c.args.flat.now in
    let m = c.args.marking.now in
    let before = c.args.kept.now.items in
    let t = c.args.tally.now in
    let u = c.rate_others.new.tally in
    let v = c.rate_leaf.new.tally in
    let p = c.get-part.result.now in
    let is = c.part.ensures ∙ ap (λ (q : Part). Some q) (sym c.get-part.ensures) in
    let so = subst (λ (xs : List ℕ). FollowsPlaces n (places_of p) c.args.leaf.0 xs m t u) c.deref.ensures.value (c.rate_others.ensures.rates p is) in
    all_rates n before m t v c.requires.rates (follows_on n m t u v so.follows c.rate_leaf.ensures.follows)
    (all_new n c.args.leaf.0 p is before m (c.requires.differs p is) t u v so c.rate_leaf.ensures.follows c.rate_leaf.ensures.anew)

pub returns-then-rate_others-clause-kept : goal.returns-then-rate_others-clause-kept
returns-then-rate_others-clause-kept c =
    let m = c.args.marking.now in
    let before = c.args.kept.now.items in
    let p = c.get-part.result.now in
    let is_part = c.part.ensures ∙ ap (λ (q : Part). Some q) (sym c.get-part.ensures) in
    let now = c.copy_cells.new.to in
    let new : List ℕ = take c.args.kept.now.len (now ++ drop (length now) before) in
    let slots = c.as_slice.result.now in
    let over = subst (λ (ss : List Slot). LiesOver (map place_of ss) m) (sym c.as_slice.ensures) (lies_over c.args.flat.now c.args.leaf.0 p is_part m c.requires.marking c.is_network.ensures.laid) in
    let is = refilled c.args.kept.now.len now (drop (length now) before) c.deref_mut.result.now (map place_of slots) _ c.copy_cells.ensures c.deref_mut.ensures.len ∙ c.copy_cells.ensures
    ∙ ap (scatter (map place_of slots) (gather (map place_of slots) m)) c.deref_mut.ensures.value in
    let same = c.requires.kept ∙ sym c.requires.marking in
    kept_caught c.args.flat.now c.args.leaf.0 p is_part before m (c.requires.differs p is_part) new same
    (subst (λ (ss : List Slot). CaughtUp (map place_of ss) m before new) c.as_slice.ensures
    (subst (λ (ys : List ℕ). CaughtUp (map place_of slots) m before ys) (sym is) (copied (map place_of slots) m before same over.within)))

pub returns-else-rate_others-clause-rates : goal.returns-else-rate_others-clause-rates
returns-else-rate_others-clause-rates c =
    let n = c.args.flat.now in
    let m = c.args.marking.now in
    let before = c.args.kept.now.items in
    let t = c.args.tally.now in
    let u = c.rate_others.new.tally in
    let p = c.get-part.result.now in
    let is = c.part.ensures ∙ ap (λ (q : Part). Some q) (sym c.get-part.ensures) in
    let so = c.rate_others.ensures.rates p is in
    let same = ap (λ (xs : List ℕ). list_any (differs_at xs m) (places_of p)) (sym c.deref.ensures.value) ∙ (sym (c.rate_others.ensures.changed p is) ∙ c.if-rate_others.false) in
    all_rates n before m t u c.requires.rates so.follows (none_new n c.args.leaf.0 p is before m (c.requires.differs p is) same u)

pub returns-else-rate_others-clause-kept : goal.returns-else-rate_others-clause-kept
returns-else-rate_others-clause-kept c =
    let m = c.args.marking.now in
    let before = c.args.kept.now.items in
    let p = c.get-part.result.now in
    let is = c.part.ensures ∙ ap (λ (q : Part). Some q) (sym c.get-part.ensures) in
    let same = ap (λ (xs : List ℕ). list_any (differs_at xs m) (places_of p)) (sym c.deref.ensures.value) ∙ (sym (c.rate_others.ensures.changed p is) ∙ c.if-rate_others.false) in
    kept_same c.args.flat.now c.args.leaf.0 p is before m (c.requires.differs p is) same (c.requires.kept ∙ sym c.requires.marking)
