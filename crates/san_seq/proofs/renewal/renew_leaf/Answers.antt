use Rattle.std.proofs.Common.{◌∙◌, sym, ap, length, map, not, ℕ, List}
use Rattle.std.proofs.lemmas.List.{length-map}
use Rattle.san_draw.specs.Key.{draw_of}
use Rattle.san_law.specs.Clocks.{renewed_row, same_list}
use Rattle.san_law.specs.State.{gather}
use Rattle.san_net.specs.Laid.{place_of, places_of}
use Rattle.san_net.specs.Leaf.{leaf_of}
use Rattle.san_net.specs.declared.part.Slot.{Slot}
use Rattle.san_net.proofs.CellLemmas.{cells_are}
use Rattle.san_seq.proofs.renewal.renew_leaf.Goals as goal

pub renew-requires-clause-each : goal.renew-requires-clause-each
renew-requires-clause-each c =
    ap length c.new-cells.ensures ∙ cells_are (map place_of c.as_slice-slots.result.now) c.args.markings.now.present.now ∙ length-map c.as_slice-slots.result.now place_of
    ∙ ap (λ (ss : List Slot). length ss) c.as_slice-slots.ensures ∙ c.requires.each

pub returns-clause-row : goal.returns-clause-row
returns-clause-row c =
    let p = c.args.part.now in
    let stable = c.args.markings.now.stable.now in
    let present = c.args.markings.now.present.now in
    let seen = gather (places_of p) stable in
    let places = ap (λ (ss : List Slot). map place_of ss) c.as_slice-slots.ensures in
    let values = c.new-cells.ensures ∙ ap (λ (ps : List ℕ). gather ps present) places in
    let same = c.same_values-changed.ensures ∙ ap (λ (ps : List ℕ). same_list (gather ps stable) (gather ps present)) places ∙ ap (same_list seen) (sym values) in
    c.renew.ensures.row seen (ap not same)
    ∙ ap (λ (vs : List ℕ). renewed_row (draw_of c.args.streams.now.seed) (leaf_of p) c.args.time seen (record { values = vs; row = c.args.row.now })) values
