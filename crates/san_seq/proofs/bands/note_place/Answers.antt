use Rattle.std.proofs.Common.{◌∙◌, [], ap, arith, map, sym}
use Rattle.std.proofs.lemmas.List.{get_or-map, length-map, map-set}
use Rattle.san_seq.proofs.BandLemmas.{placed_by, placed_there}
use Rattle.san_seq.proofs.bands.note_place.Goals as goal

pub returns-clause-gains : goal.returns-clause-gains
returns-clause-gains c =
    let items = c.args.table.now.items in
    let place = c.args.place.0 in
    let old = get_or-map (λ v. v.items) items place c.index_mut-bands.result.now [] c.requires ∙ ap (λ v. v.items) (sym c.index_mut-bands.ensures.value) in
    placed_by c.note_cell.result c.args.leaf (map (λ v. v.items) items) _ place c.index_mut-bands.result.now.items c.note_cell.new.bands.items (omega (arith, c.requires, length-map items (λ v. v.items))) old
    (map-set (λ v. v.items) items place c.note_cell.new.bands) c.note_cell.ensures.gains

pub returns-clause-there : goal.returns-clause-there
returns-clause-there c =
    let items = c.args.table.now.items in
    let place = c.args.place.0 in
    placed_there c.note_cell.result c.args.concern c.args.acts.now c.args.cell c.args.leaf (map (λ v. v.items) items) _ place c.note_cell.new.bands.items (omega (arith, c.requires, length-map items (λ v. v.items)))
    (map-set (λ v. v.items) items place c.note_cell.new.bands) c.note_cell.ensures.there
