use Rattle.std.proofs.Common.{◌∙◌, ◌≡◌, ℕ, arith, ap, length, map, refl, subst, sym, Some}
use Rattle.std.proofs.lemmas.List.{length-map}
use Rattle.san_net.specs.declared.part.Part.{Part}
use Rattle.san_seq.specs.inner.Wakes.{IsIndex}
use Rattle.san_seq.proofs.BandLemmas.{table_more}
use Rattle.san_seq.proofs.KnownLemmas.{places_within}
use Rattle.san_seq.proofs.bands.table.Goals as goal

pub note-requires-clause-within : goal.note-requires-clause-within
note-requires-clause-within c = λ i place at.
    let n = c.args.flat.now in
    let is = c.part.ensures ∙ ap (λ (p : Part). Some p) (sym c.get.ensures) in
    let below = places_within n n.initial refl c.is_network.ensures.laid c.leaves.j c.get.result.now i place is at in
    omega (arith, below, c.leaves.invariant.sized, length-map c.leaves.table.items (λ v. v.items))

pub leaves-preserved : goal.leaves-preserved
leaves-preserved c =
    let n = c.args.flat.now in
    let is = c.part.ensures ∙ ap (λ (p : Part). Some p) (sym c.get.ensures) in
    table_more c.args.concern n c.leaves.j c.get.result.now (map (λ v. v.items) c.leaves.table.items) (map (λ v. v.items) c.note.new.table.items) is
    (c.is_network.ensures.network.numbered.leaves c.leaves.j c.get.result.now is) c.leaves.invariant c.in_ok-note.ensures.noted

pub returns : goal.returns
returns c =
    let all : c.leaves.j ≡ length c.args.flat.now.parts = omega (arith, c.leaves-test.false, c.leaves.auto.j-end, c.leaves-j-end.ensures) in
    subst (λ (m : ℕ). IsIndex c.args.concern c.args.flat.now m (map (λ x. x.items) c.leaves.table.items)) all c.leaves.invariant
