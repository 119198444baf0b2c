use Rattle.std.proofs.Common.{arith, refl}
use Rattle.std.proofs.lemmas.Option.{slice_get-get_or, slice_get_within}
use Rattle.san_seq.specs.inner.Firsts.{IsEarlier}
use Rattle.san_seq.proofs.KnownLemmas.{places_within}
use Rattle.san_seq.proofs.SearchLemmas.{earlier_whole, found_first, front_more}
use Rattle.san_seq.proofs.next.first_of_changed.Goals as goal

pub overflow_cast-place : goal.overflow_cast-place
overflow_cast-place c =
    let here = slice_get-get_or c.list-changed.result.now c.places.k 0 c.places-test.true in
    omega (arith, slice_get_within c.args.places.now _ _ (c.list-changed.ensures.up c.places.k _ here), c.requires.places, c.is_network.ensures.network.small.places)

pub first_of_place-first-requires-clause-place : goal.first_of_place-first-requires-clause-place
first_of_place-first-requires-clause-place c =
    let here = slice_get-get_or c.list-changed.result.now c.places.k 0 c.places-test.true in
    omega (arith, slice_get_within c.args.places.now _ _ (c.list-changed.ensures.up c.places.k _ here), c.requires.places)

pub places-preserved : goal.places-preserved
places-preserved c =
    let n = c.args.flat.now in
    let w = c.args.wakes.now in
    let stable = c.args.markings.now.stable.now in
    let m = c.args.markings.now.present.now in
    let many = c.first_of_place-first.result.leaf.0 in
    let here = slice_get-get_or c.list-changed.result.now c.places.k 0 c.places-test.true in
    record {
      first = c.first_of_place-first.ensures.first;
      none = front_more (IsEarlier n.parts w stable m many) c.list-changed.result.now c.places.k _ here c.first_of_place-first.ensures.none
          (λ i q u is weight j there l. c.places.invariant.none i q u is weight j there (omega (arith, l, c.first_of_place-first.ensures.sooner)));
    }

pub returns : goal.returns
returns c =
    let n = c.args.flat.now in
    let w = c.args.wakes.now in
    let stable = c.args.markings.now.stable.now in
    let m = c.args.markings.now.present.now in
    let f = c.places.first in
    found_first n w stable m f c.is_network.ensures.network c.requires.woken c.requires.settled (places_within n n.initial refl c.is_network.ensures.laid) c.places.invariant.first
    (λ q h. earlier_whole n.parts w stable m c.args.places.now c.list-changed.result.now c.places.k f.leaf.0 c.requires.same c.list-changed.ensures c.places-test.false c.places.invariant.none q (omega (arith, h, c.requires.places)))
