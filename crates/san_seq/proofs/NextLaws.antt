-- The next instantaneous activity by the parts is the law's.
use Rattle.std.proofs.Common.{ℕ, zero, suc, ◌+◌, ◌<◌, ◌≡◌, ◌∙◌, ap, sym, refl, arith, List, length, map, drop, Option, Some, None}
use Rattle.std.specs.Prelude.{slice_get}
use Rattle.std.proofs.lemmas.List.{length-map}
use Rattle.san_law.specs.Activity as leaf
use Rattle.san_law.specs.Network as network
use Rattle.san_law.specs.Next as law
use Rattle.san_law.specs.State.{State, gather, slots_of}
use Rattle.san_net.proofs.FirstLaws.{first_is_first}
use Rattle.san_net.specs.Laid.{IsNetwork, places_of}
use Rattle.san_net.specs.Leaf.{leaf_of}
use Rattle.san_net.specs.Network.{Network, net_of, network_in}
use Rattle.san_net.specs.declared.part.Part.{Part}
use Rattle.san_seq.specs.inner.Nexts.{first_by, first_from, first_of_part, next_among}
use Rattle.san_seq.proofs.NextLemmas.{cut, none_left}
use Rattle.san_net.proofs.PartLemmas.{part_is, places_are}

module _ (n : Network) (draw : ℕ → ℕ → ℕ) (limits : network.Limits) (s : State) (m : List ℕ) (known : IsNetwork n) (now : s.marking ≡ m) where
  at_leaf : (j : ℕ) (p : Part) → slice_get n.parts j ≡ Some p → first_of_part m p ≡ law.next_of (net_of n draw limits) s j
  at_leaf j p is =
      first_is_first p (gather (places_of p) m) (known.accepted j p is)
      ∙ ap (λ (q : leaf.Part). leaf.first_instant q (gather (places_of p) m)) (sym (part_is n j p is))
      ∙ ap (λ (ps : List ℕ). leaf.first_instant (network.part_at (network_in n) j) (gather ps m)) (sym (places_are n j p is draw limits))
      ∙ ap (λ (x : List ℕ). leaf.first_instant (network.part_at (network_in n) j) (gather (slots_of (net_of n draw limits) j) x)) (sym now)

  scan_is : (j k : ℕ) → j + k ≡ length n.parts → first_from j m (drop j n.parts) ≡ law.scan (net_of n draw limits) s j k
  unfolding first_from
  scan_is j zero sized = none_left n.parts m j (omega (arith, sized))
  scan_is j (suc k) sized =
      let at = cut n.parts j (omega (arith, sized)) in
      ap (first_from j m) at.2
      ∙ ap (λ f. law.found_at j f (first_from (suc j) m (drop (suc j) n.parts))) (at_leaf j at.0 at.1)
      ∙ ap (law.found_at j (law.next_of (net_of n draw limits) s j)) (scan_is (suc j) k (omega (arith, sized)))

  all_scanned : first_from 0 m n.parts ≡ law.scan (net_of n draw limits) s 0 (length (net_of n draw limits).parts)
  all_scanned =
      let long : length (net_of n draw limits).parts ≡ length n.parts = length-map (map leaf_of n.parts) (λ (q : leaf.Part). q.slots) ∙ length-map n.parts leaf_of in
      scan_is 0 (length n.parts) (omega arith) ∙ ap (law.scan (net_of n draw limits) s 0) (sym long)

  by_last : (last : Option ℕ) → ((j : ℕ) → last ≡ Some j → j < length n.parts)
      → next_among n.parts last m ≡ law.last_first (net_of n draw limits) s last (law.scan (net_of n draw limits) s 0 (length (net_of n draw limits).parts))
  by_last None there = all_scanned
  by_last (Some j) there =
      let at = cut n.parts j (there j refl) in
      ap (λ f. law.found_at j f (first_from 0 m n.parts)) (ap (first_by m) at.1 ∙ at_leaf j at.0 at.1)
      ∙ ap (law.found_at j (law.next_of (net_of n draw limits) s j)) all_scanned

  -- the law's next instantaneous activity
  pub next_is : (last : Option ℕ) → s.last ≡ last → ((j : ℕ) → last ≡ Some j → j < length n.parts) → next_among n.parts last m ≡ law.next_instant (net_of n draw limits) s
  unfolding law.next_instant
  next_is last e there =
      by_last last there ∙ ap (λ (o : Option ℕ). law.last_first (net_of n draw limits) s o (law.scan (net_of n draw limits) s 0 (length (net_of n draw limits).parts))) (sym e)
