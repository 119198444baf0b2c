use Rattle.std.proofs.Common.{◌+◌, ◌∙◌, ap, drop, length, sym, List, Bool}
use Rattle.std.proofs.lemmas.List.{at_drop_more}
use Rattle.san_base.specs.declared.numbers.LeafId.{LeafId}
use Rattle.san_base.specs.declared.numbers.PlaceId.{PlaceId}
use Rattle.san_turn.specs.inner.Marks.{raised, raised_all}
use Rattle.san_turn.proofs.Raised.{length_raised}
use Rattle.san_turn.proofs.marks.raise_all.Goals as goal

pub places-preserved : goal.places-preserved
places-preserved c =
    let none : PlaceId = record { 0 = 0 } in
    let is = c.raise.ensures ∙ ap (λ (ls : List LeafId). raised ls c.places.flags) c.importers.ensures in
    let step = at_drop_more (λ (ps : List PlaceId). raised_all c.args.flat.now.parts ps c.places.flags) c.args.places.now c.places.place-index none c.places-test.true in
    record {
      sized = ap (λ (fs : List Bool). length fs) c.raise.ensures ∙ length_raised c.importers.result.now c.places.flags ∙ c.places.invariant.sized;
      raised = ap (λ (fs : List Bool). raised_all c.args.flat.now.parts (drop (c.places.place-index + 1) c.args.places.now) fs) is ∙ sym step ∙ c.places.invariant.raised;
    }
