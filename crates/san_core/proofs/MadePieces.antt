-- The claim of the needed piece fits, and its streams are there.
use Rattle.std.proofs.Common.{ℕ, ◌+◌, ◌*◌, ◌<◌, ◌≤◌, ◌≡◌, ◌∙◌, ap, sym, subst, arith, List, length, Some, slice_index_or}
use Rattle.std.specs.Prelude.{slice_get}
use Rattle.std.proofs.lemmas.List.{get_or_default}
use Rattle.san_law.specs.Core.{leaf_of}
use Rattle.san_law.specs.Piece.{LeafState, no_leaf}
use Rattle.san_leaf.specs.Fits.{Fits}
use Rattle.san_net.proofs.FlatLemmas.{acts_within}
use Rattle.san_net.specs.Laid.{IsNetwork, acts_of}
use Rattle.san_net.specs.Network.{Network}
use Rattle.san_net.specs.declared.part.Part.{Part}
use Rattle.san_core.specs.Committed.{CommittedValue}
use Rattle.san_core.specs.declared.admission.Taking.{Taking}
use Rattle.san_core.specs.inner.Needed.{claim_from}

pub base_is : (leaves : List LeafState) (v : CommittedValue) (j : ℕ) (s : LeafState) → leaves ≡ v.core.leaves → s ≡ slice_index_or leaves j s → j < length v.core.leaves → s ≡ leaf_of v.core j
base_is leaves v j s is at within =
    at ∙ (ap (λ (xs : List LeafState). slice_index_or xs j s) is ∙ get_or_default v.core.leaves j s no_leaf within)

pub claim_with : (parts : List Part) (v : CommittedValue) (seed : ℕ) (t : Taking) (there p : Part) (base : LeafState) → ((q : Part) → slice_get parts t.leaf.0 ≡ Some q → Fits (claim_from v seed t q))
    → slice_get parts t.leaf.0 ≡ Some there → p ≡ there → base ≡ leaf_of v.core t.leaf.0 → Fits (record { part = p; seed = seed; kind = t.kind; base = base; time = t.time.0 })
claim_with parts v seed t there p base fits is same at =
    subst (λ (s : LeafState). Fits (record { part = p; seed = seed; kind = t.kind; base = s; time = t.time.0 })) (sym at)
    (subst (λ (q : Part). Fits (claim_from v seed t q)) (sym same) (fits there is))

pub streams_reach : (n : Network) (j : ℕ) (p : Part) → IsNetwork n → slice_get n.parts j ≡ Some p → (streams : ℕ) → 2 * acts_of n.parts ≤ streams → 2 * (p.first.0 + length p.atomic.acts) ≤ streams
streams_reach n j p network there streams enough = let within = acts_within n j p network there in omega (arith, within, enough)
