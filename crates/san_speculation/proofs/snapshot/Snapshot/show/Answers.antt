use Rattle.std.proofs.Common.{ℕ, List, ◌∙◌, ◌≡◌, ap, length, map, subst, sym}
use Rattle.std.proofs.lemmas.List.{length-map, with_items_is}
use Rattle.san_speculation.specs.Snapshots.{shown_at}
use Rattle.san_speculation.specs.inner.Ascending.{IsSnapshot}
use Rattle.san_speculation.proofs.SnapshotLemmas.{mapped_small}
use Rattle.san_speculation.proofs.snapshot.Snapshot.show.Goals as goal

pub invariant_of-self : goal.invariant_of-self
invariant_of-self c =
    let qs = c.self.inside.places.items in
    let f : ℕ → ℕ = shown_at c.args.ahead.now.lines c.args.stamp in
    let given : c.show_all.new.values ≡ map f qs = c.show_all.ensures ∙ ap (map f) c.as_slice.ensures.value in
    let long : length c.show_all.new.values ≡ c.self.inside.values.len =
    ap (λ (vs : List ℕ). length vs) given ∙ length-map qs f ∙ sym c.self.invariant.long ∙ ap (λ (vs : List ℕ). length vs) (sym c.as_mut_slice.ensures.value) ∙ c.as_mut_slice.ensures.len in
    subst (IsSnapshot qs) (sym (with_items_is c.self.inside.values c.show_all.new.values long ∙ given))
    (record { ascending = c.self.invariant.ascending; long = length-map qs f; small = mapped_small f qs c.requires })
