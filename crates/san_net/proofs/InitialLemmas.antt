-- No initial value of a network is above the greatest number of tokens: each place is some leaf's.
use Rattle.std.proofs.Common.{ℕ, ◌≤◌, ◌<◌, ◌≡◌, ◌∙◌, ◌⊎◌, inl, inr, sym, subst, arith, List, length, Some, All, slice_index}
use Rattle.std.specs.Prelude.{slice_get}
use Rattle.std.proofs.lemmas.Bool.{cases_lt}
use Rattle.std.proofs.lemmas.List.{get_or_past}
use Rattle.std.proofs.lemmas.List.Elements.{All-get_or}
use Rattle.std.proofs.lemmas.Option.{get_or_from_slice_get, slice_get_within}
use Rattle.san_base.specs.declared.limits.TheConstants.{MAX_TOKENS}
use Rattle.san_expr.specs.Concerns.{IsMarking}
use Rattle.san_net.specs.Laid.{IsNetwork}
use Rattle.san_net.specs.Network.{Network}
use Rattle.san_net.specs.Tables.{importers_of}
use Rattle.san_net.proofs.TableLemmas.{got_at}
use Rattle.san_net.proofs.HolderLemmas.{Has, has_some, imported_some}

small_at : (xs : List ℕ) (i v : ℕ) → All (λ x. x ≤ MAX_TOKENS) xs → slice_get xs i ≡ Some v → v ≤ MAX_TOKENS
small_at xs i v all is =
    subst (λ (x : ℕ). x ≤ MAX_TOKENS) (get_or_from_slice_get xs i v 0 is) (All-get_or (λ (x : ℕ). x ≤ MAX_TOKENS) xs i 0 (slice_get_within xs i v is) all)

value_small : (n : Network) (q : ℕ) → IsNetwork n → Has n.parts q → q < length n.initial → slice_index n.initial q ≤ MAX_TOKENS
value_small n q net has h =
    small_at has.part.atomic.initial has.cell (slice_index n.initial q) (net.accepted has.leaf has.part has.is).initial
    (sym (net.valued has.leaf has.part has.is has.cell q has.at) ∙ got_at n.initial q h)

pub initial_small : (n : Network) → IsNetwork n → ((place : ℕ) → place < n.shared → 2 ≤ length (importers_of n.parts place))
    → ((place : ℕ) → n.shared ≤ place → place < length n.initial → length (importers_of n.parts place) ≡ 1) → IsMarking n.initial
initial_small n net shared private q = by_case (cases_lt q (length n.initial))
  where
    by_case : (q < length n.initial) ⊎ (length n.initial ≤ q) → slice_index n.initial q ≤ MAX_TOKENS
    by_case (inl h) = value_small n q net (has_some n.parts q (imported_some n q shared private h)) h
    by_case (inr h) = let e = get_or_past n.initial q 0 h in omega (arith, e)
