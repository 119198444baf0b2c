-- A leaf that has a place is among the place's importers.
use Rattle.std.proofs.Common.{ℕ, zero, suc, ◌≡◌, ◌∙◌, ap, List, [], ◌∷◌, map, filter, Option, Some, Bool, true, false, nat_eq, ◌||◌, cond}
use Rattle.std.specs.Prelude.{slice_get}
use Rattle.std.specs.List.{list_any}
use Rattle.san_base.proofs.Bools.{or_right}
use Rattle.san_base.proofs.NumberTests.{number_itself, some_same}
use Rattle.san_base.specs.declared.numbers.LeafId.{LeafId}
use Rattle.san_net.specs.Laid.{places_of}
use Rattle.san_net.specs.Tables.{importers_of}
use Rattle.san_net.specs.declared.part.Part.{Part}

-- a leaf that has a place is one of its leaves
has_at : (q : ℕ) (xs : List ℕ) (i : ℕ) → slice_get xs i ≡ Some q → list_any (nat_eq q) xs ≡ true
has_at q [] i e = absurd cc
has_at q (x ∷ xs) zero e = ap (λ (n : ℕ). nat_eq q n || list_any (nat_eq q) xs) (some_same x q e) ∙ ap (λ (b : Bool). b || list_any (nat_eq q) xs) (number_itself q)
has_at q (x ∷ xs) (suc i) e = ap (λ (b : Bool). nat_eq q x || b) (has_at q xs i e) ∙ or_right (nat_eq q x)

pub imported : (parts : List Part) (q j i : ℕ) (p : Part) → slice_get parts j ≡ Some p → slice_get (places_of p) i ≡ Some q → (k : ℕ) × (slice_get (importers_of parts q) k ≡ Some p.leaf)
imported [] q j i p is at = absurd cc
imported (r ∷ rs) q zero i p is at =
    let same : r ≡ p = some_same r p is in
    let has : list_any (nat_eq q) (places_of r) ≡ true = has_at q (places_of r) i (ap (λ (x : Part). slice_get (places_of x) i) same ∙ at) in
    (0, ap (λ (b : Bool). slice_get (map (λ (x : Part). x.leaf) (cond b (r ∷ filter (λ x. list_any (nat_eq q) (places_of x)) rs) (filter (λ x. list_any (nat_eq q) (places_of x)) rs))) 0) has ∙ ap (λ (x : Part). (let o : Option LeafId = Some x.leaf in o)) same)
imported (r ∷ rs) q (suc j) i p is at = by_test (list_any (nat_eq q) (places_of r)) (imported rs q j i p is at)
  where
    by_test : (b : Bool) → (k : ℕ) × (slice_get (importers_of rs q) k ≡ Some p.leaf) → (k : ℕ) × (slice_get (map (λ (x : Part). x.leaf) (cond b (r ∷ filter (λ x. list_any (nat_eq q) (places_of x)) rs) (filter (λ x. list_any (nat_eq q) (places_of x)) rs))) k ≡ Some p.leaf)
    by_test true got = (suc got.0, got.1)
    by_test false got = got
