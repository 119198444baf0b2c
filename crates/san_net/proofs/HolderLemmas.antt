-- A place that a network has is one of some leaf's.
use Rattle.std.proofs.Common.{ℕ, suc, ◌≤◌, ◌<◌, ◌≡◌, ◌⊎◌, inl, inr, ap, sym, refl, arith, List, [], ◌∷◌, length, map, filter, Option, Some, Bool, true, false, nat_eq, ◌||◌, cond}
use Rattle.std.specs.Prelude.{slice_get}
use Rattle.std.specs.List.{list_any}
use Rattle.std.proofs.lemmas.Bool.{cases_lt, eqb-true}
use Rattle.san_net.specs.Laid.{places_of}
use Rattle.san_net.specs.Network.{Network}
use Rattle.san_net.specs.Tables.{importers_of}
use Rattle.san_net.specs.declared.part.Part.{Part}

-- and a place that some leaf has is one of that leaf's
has_where : (q : ℕ) (xs : List ℕ) → list_any (nat_eq q) xs ≡ true → (i : ℕ) × (slice_get xs i ≡ Some q)
has_where q [] e = absurd cc
has_where q (x ∷ xs) e = by_test (has_where q xs) (nat_eq q x) refl e
  where
    by_test : (list_any (nat_eq q) xs ≡ true → (i : ℕ) × (slice_get xs i ≡ Some q)) → (b : Bool) → nat_eq q x ≡ b → (b || list_any (nat_eq q) xs) ≡ true → (i : ℕ) × (slice_get (x ∷ xs) i ≡ Some q)
    by_test rest true t h = (0, ap (λ (n : ℕ). (let o : Option ℕ = Some n in o)) (sym (eqb-true q x t)))
    by_test rest false t h = let got = rest h in (suc got.0, got.1)

-- some part has the place
pub record Has (parts : List Part) (q : ℕ) : Type 0 where
  pub leaf : ℕ
  pub part : Part
  pub is : slice_get parts leaf ≡ Some part
  pub cell : ℕ
  pub at : slice_get (places_of part) cell ≡ Some q

has_later : (r : Part) (rs : List Part) (q : ℕ) → Has rs q → Has (r ∷ rs) q
has_later r rs q h = record { leaf = suc h.leaf; part = h.part; is = h.is; cell = h.cell; at = h.at }

pub has_some : (parts : List Part) (q : ℕ) → 1 ≤ length (importers_of parts q) → Has parts q
has_some [] q h = absurd (omega (arith, h))
has_some (r ∷ rs) q h = by_test (has_some rs q) (list_any (nat_eq q) (places_of r)) refl h
  where
    by_test : (1 ≤ length (importers_of rs q) → Has rs q) → (b : Bool) → list_any (nat_eq q) (places_of r) ≡ b
        → 1 ≤ length (map (λ (x : Part). x.leaf) (cond b (r ∷ filter (λ x. list_any (nat_eq q) (places_of x)) rs) (filter (λ x. list_any (nat_eq q) (places_of x)) rs))) → Has (r ∷ rs) q
    by_test rest true t l = let got = has_where q (places_of r) t in record { leaf = 0; part = r; is = refl; cell = got.0; at = got.1 }
    by_test rest false t l = has_later r rs q (rest l)

-- each place is some leaf's
pub imported_some : (n : Network) (q : ℕ) → ((place : ℕ) → place < n.shared → 2 ≤ length (importers_of n.parts place)) → ((place : ℕ) → n.shared ≤ place → place < length n.initial → length (importers_of n.parts place) ≡ 1)
    → q < length n.initial → 1 ≤ length (importers_of n.parts q)
imported_some n q shared private h = by_case (cases_lt q n.shared)
  where
    by_case : (q < n.shared) ⊎ (n.shared ≤ q) → 1 ≤ length (importers_of n.parts q)
    by_case (inl l) = omega (arith, shared q l)
    by_case (inr l) = omega (arith, private q l h)
