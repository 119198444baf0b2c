use Rattle.std.proofs.Common.{ℕ, ◌≤◌, ◌≡◌, ◌∙◌, ap, subst, sym}
use Rattle.std.specs.Prelude.{List, slice_index}
use Rattle.san_base.specs.declared.limits.TheConstants.{MAX_TOKENS}
use Rattle.san_speculation.specs.Snapshots.{SnapshotValue, marking_of}
use Rattle.san_speculation.specs.inner.Ascending.{value_in}
use Rattle.san_speculation.proofs.SnapshotLemmas.{shows, value_small}
use Rattle.san_speculation.proofs.snapshot.SnapshotView.read.Goals as goal

pub returns-clause-value : goal.returns-clause-value
returns-clause-value c =
    let qs = c.self.inside.places.items in
    let vs = c.self.inside.values.items in
    let value : c.value_of.result ≡ value_in c.args.place.0 qs vs =
    c.value_of.ensures ∙ ap (λ (xs : List ℕ). value_in c.args.place.0 xs c.as_slice-2.result.now) c.as_slice.ensures.value ∙ ap (value_in c.args.place.0 qs) c.as_slice-2.ensures.value in
    subst (λ (v : ℕ). v ≤ MAX_TOKENS) (sym value) (value_small c.args.place.0 qs vs c.self.invariant.small)

pub returns-clause-shown : goal.returns-clause-shown
returns-clause-shown c =
    let qs = c.self.inside.places.items in
    let vs = c.self.inside.values.items in
    let value : c.value_of.result ≡ value_in c.args.place.0 qs vs =
    c.value_of.ensures ∙ ap (λ (xs : List ℕ). value_in c.args.place.0 xs c.as_slice-2.result.now) c.as_slice.ensures.value ∙ ap (value_in c.args.place.0 qs) c.as_slice-2.ensures.value in
    ap (λ (s : SnapshotValue). slice_index (marking_of s.places s.values) c.args.place.0) (sym c.self.view_is) ∙ shows qs vs c.args.place.0 ∙ sym value
