use Rattle.std.proofs.Common.{ℕ, List, ◌∙◌, ◌≡◌, ap, arith, length, map, subst, sym}
use Rattle.std.proofs.lemmas.List.{length-map}
use Rattle.san_speculation.specs.inner.Ascending.{AreTokens}
use Rattle.san_speculation.proofs.SnapshotLemmas.{mapped_small}
use Rattle.san_speculation.proofs.snapshot.Snapshot.for_part.Goals as goal

pub invariant_of-result : goal.invariant_of-result
invariant_of-result c =
    let qs = c.in_ok-places.places.items in
    let f : ℕ → ℕ = λ q. 0 in
    let given : c.in_ok-values.values.items ≡ map f qs = c.in_ok-values.ensures ∙ ap (map f) c.as_slice-2.ensures.value in
    record {
      ascending = c.in_ok-places.ensures.ascending;
      long = ap (λ (vs : List ℕ). length vs) given ∙ length-map qs f;
      small = subst AreTokens (sym given) (mapped_small f qs (λ q. omega arith));
    }
