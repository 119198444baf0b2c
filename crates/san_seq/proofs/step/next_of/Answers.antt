use Rattle.std.proofs.Common.{◌∙◌, ◌≡◌, ◌<◌, ap, subst, sym, ℕ, List, length, Some}
use Rattle.std.specs.Option.{option_map}
use Rattle.san_law.specs.State.{State}
use Rattle.san_base.specs.declared.numbers.LeafId.{LeafId}
use Rattle.san_seq.specs.inner.Known.{AreAsleep, AreSettled, HaveSame}
use Rattle.san_seq.proofs.NextLaws.{next_is}
use Rattle.san_seq.proofs.step.next_of.Goals as goal

pub next_instant-requires-clause-settled : goal.next_instant-requires-clause-settled
next_instant-requires-clause-settled c = λ e.
    subst (AreSettled c.args.flat.now.parts) (sym (c.as_slice.ensures.value ∙ ap (λ (x : State). x.stable) c.state.view_is)) (c.requires.known.settled e)

pub next_instant-requires-clause-same : goal.next_instant-requires-clause-same
next_instant-requires-clause-same c =
    subst (λ (s : List ℕ). HaveSame c.args.stale.now.places s c.as_slice-2.result.now) (sym (c.as_slice.ensures.value ∙ ap (λ (x : State). x.stable) c.state.view_is))
    (subst (λ (m : List ℕ). HaveSame c.args.stale.now.places c.args.state.now.stable m) (sym (c.as_slice-2.ensures.value ∙ ap (λ (x : State). x.marking) c.state.view_is)) c.requires.known.places)

pub next_instant-requires-clause-asleep : goal.next_instant-requires-clause-asleep
next_instant-requires-clause-asleep c =
    subst (AreAsleep c.args.flat.now c.args.stale.now.awake) (sym (c.as_slice-2.ensures.value ∙ ap (λ (x : State). x.marking) c.state.view_is)) c.requires.known.asleep

pub returns : goal.returns
returns c = λ draw bounds.
    let there : (j : ℕ) → option_map (λ (leaf : LeafId). leaf.0) c.state.inside.last ≡ Some j → j < length c.args.flat.now.parts =
    λ j is. c.requires.last j (sym (ap (λ (x : State). x.last) c.state.view_is) ∙ is) in
    c.next_instant.ensures
    ∙ next_is c.args.flat.now draw bounds c.args.state.now c.as_slice-2.result.now c.is_network.ensures.network
    (sym (c.as_slice-2.ensures.value ∙ ap (λ (x : State). x.marking) c.state.view_is)) (option_map (λ (leaf : LeafId). leaf.0) c.state.inside.last)
    (sym (ap (λ (x : State). x.last) c.state.view_is)) there
