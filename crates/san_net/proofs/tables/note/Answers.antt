use Rattle.std.proofs.Common.{◌∙◌, ◌<◌, arith, map, length}
use Rattle.std.specs.Prelude.{slice_index}
use Rattle.std.proofs.lemmas.List.{length-map}
use Rattle.san_net.specs.Laid.{place_of}
use Rattle.san_net.proofs.TableLemmas.{got_at, noted_more, slot_place}
use Rattle.san_net.proofs.tables.note.Goals as goal

pub push_at-requires : goal.push_at-requires
push_at-requires c =
    let places = map place_of c.args.slots.now in
    let i = c.slots.slot-index in
    let many = length-map c.args.slots.now place_of in
    let at = c.place.ensures ∙ slot_place c.args.slots.now i _ c.slots-test.true in
    let low = c.requires.within i (slice_index places i) (got_at places i (omega (arith, many, c.slots-test.true))) in
    omega (arith, at, low, c.slots.invariant.sized)

pub slots-preserved : goal.slots-preserved
slots-preserved c =
    let places = map place_of c.args.slots.now in
    let i = c.slots.slot-index in
    let many = length-map c.args.slots.now place_of in
    let at = c.place.ensures ∙ slot_place c.args.slots.now i _ c.slots-test.true in
    let within : i < length places = omega (arith, many, c.slots-test.true) in
    let low = c.requires.within i (slice_index places i) (got_at places i within) in
    let lists = length-map c.slots.table.items (λ v. v.items) in
    record {
      sized = c.push_at.ensures.sized ∙ c.slots.invariant.sized;
      noted = rw c.in_ok-push_at.ensures.pushed (noted_more _ _ c.args.leaf places i c.place.result.0 c.requires.apart within at (omega (arith, lists, at, low, c.slots.invariant.sized)) c.slots.invariant.noted);
    }
