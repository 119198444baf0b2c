-- What is known of a model, kept as a proposition, in the form in which its flattening asks for it.
use Rattle.std.proofs.Common.{◌<◌, ◌≤◌, length}
use Rattle.std.proofs.Math.Logic.{∥∥₁_elim}
use Rattle.std.proofs.Props.{props}
use Rattle.std.specs.List.{All}
use Rattle.std.proofs.lemmas.Option.{slice_get-get_or, slice_get_within}
use Rattle.std.specs.Prelude.{slice_index_or}
use Rattle.san_check.specs.declared.model.Model.{Model}
use Rattle.san_flat.proofs.LeafLemmas.{Composes, placed}
use Rattle.san_flat.proofs.NetworkLemmas.{is-network}
use Rattle.san_flat.proofs.PropLemmas.{network-prop}
use Rattle.san_flat.specs.Networks.{atomic_at, leaf_count, network_of_model}
use Rattle.san_flat.specs.inner.Models.{act_count, place_count}
use Rattle.san_flat.specs.inner.Models.{leaves_of}
use Rattle.san_flat.specs.Homes.{cells_at}
use Rattle.san_flat.specs.inner.Sightings.{IsEven}
use Rattle.san_net.specs.Laid.{IsNetwork}

evens : (m : Model) → Composes m → leaf_count m ≤ 4096 → All (IsEven m) (leaves_of m)
evens m composed few k d l =
    let i = slice_index_or (leaves_of m) k d in
    let p = placed m composed few k i (slice_get-get_or (leaves_of m) k d l) in
    (composed.rows i.atomic (atomic_at m.atomics i.atomic) (cells_at m.cells i.atomic) p.atomic p.cells).0

theres : (m : Model) → Composes m → leaf_count m ≤ 4096 → All (λ leaf. leaf.atomic < length m.atomics) (leaves_of m)
theres m composed few k d l =
    let i = slice_index_or (leaves_of m) k d in
    slice_get_within m.atomics i.atomic (atomic_at m.atomics i.atomic) (placed m composed few k i (slice_get-get_or (leaves_of m) k d l)).atomic

pub all_even : (m : Model) → ∥ Composes m ∥₁ → leaf_count m ≤ 4096 → All (IsEven m) (leaves_of m)
all_even m known few = ∥∥₁_elim known (Prim.hlevel props) (λ composed. evens m composed few)

pub all_there : (m : Model) → ∥ Composes m ∥₁ → leaf_count m ≤ 4096 → All (λ leaf. leaf.atomic < length m.atomics) (leaves_of m)
all_there m known few = ∥∥₁_elim known (Prim.hlevel props) (λ composed. theres m composed few)

pub is_network : (m : Model) → ∥ Composes m ∥₁ → leaf_count m ≤ 4096 → place_count m ≤ 65536 → act_count m ≤ 65536 → IsNetwork (network_of_model m)
is_network m known few places acts = ∥∥₁_elim known (network-prop (network_of_model m)) (λ composed. is-network m composed few places acts)
