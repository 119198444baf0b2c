-- One and the same home, and how deep it lies.
use Rattle.san_base.proofs.Bools.{both_true}
use Rattle.std.proofs.Common.{◌≡◌, ◌≤◌, ◌+◌, Bool, true, false, ◌&&◌, refl, ap, sym, ◌∙◌, nat_eq, List, [], ◌∷◌, ℕ, length, take, arith, ◌||◌}
use Rattle.std.proofs.Math.Bool.{true≢false}
use Rattle.std.specs.Cmp.{IsEquivalence, nat_eq_equiv}
use Rattle.std.specs.Cmp.Lexicographic.{pointwise, nat_list_eq_equiv}
use Rattle.std.proofs.lemmas.List.{length-take-le}
use Rattle.san_flat.specs.Homes.{same}
use Rattle.san_tree.specs.Places.{PathStep, chain, child_of, home, node_at}
use Rattle.san_tree.specs.declared.node.Node.{Node}
use Rattle.san_tree.proofs.ApartLemmas.{climb-near}

pub same-equiv : IsEquivalence same
same-equiv =
    record {
      refl = λ a. ap (λ b. b && (nat_eq a.place a.place && nat_eq a.element a.element)) (nat_list_eq_equiv.refl a.path) ∙ ap (λ b. b && nat_eq a.element a.element) (nat_eq_equiv.refl a.place) ∙ nat_eq_equiv.refl a.element;
      symm = λ a b. ap (λ x. x && (nat_eq a.place b.place && nat_eq a.element b.element)) (nat_list_eq_equiv.symm a.path b.path) ∙ ap (λ x. pointwise nat_eq b.path a.path && (x && nat_eq a.element b.element)) (nat_eq_equiv.symm a.place b.place) ∙ ap (λ x. pointwise nat_eq b.path a.path && (nat_eq b.place a.place && x)) (nat_eq_equiv.symm a.element b.element);
      congr = λ a b z h.
          let two = both_true (pointwise nat_eq a.path b.path) (nat_eq a.place b.place && nat_eq a.element b.element) h in
          let more = both_true (nat_eq a.place b.place) (nat_eq a.element b.element) two.1 in
          ap (λ x. x && (nat_eq a.place z.place && nat_eq a.element z.element)) (nat_list_eq_equiv.congr a.path b.path z.path two.0) ∙ ap (λ x. pointwise nat_eq b.path z.path && (x && nat_eq a.element z.element)) (nat_eq_equiv.congr a.place b.place z.place more.0) ∙ ap (λ x. pointwise nat_eq b.path z.path && (nat_eq b.place z.place && x)) (nat_eq_equiv.congr a.element b.element z.element more.1);
    }

chain-long : (nodes : List Node) (n : ℕ) (path : List ℕ) (above : List PathStep) → length (chain nodes n path above) ≡ length path + length above
chain-long nodes n [] above = omega arith
chain-long nodes n (c ∷ path) above =
    let rest = chain-long nodes (child_of (node_at nodes n) c) path ((node_at nodes n, c) ∷ above) in
    omega (arith, rest)

pub home_near : (nodes : List Node) (root : ℕ) (path : List ℕ) (place : ℕ) → (home nodes root path place).depth ≤ length path
unfolding home
home_near nodes root path place = omega (arith, climb-near place (chain nodes root path []), chain-long nodes root path [])

pub kept_length : (nodes : List Node) (root : ℕ) (path : List ℕ) (place depth : ℕ) → depth ≡ (home nodes root path place).depth → depth ≡ length (take depth path)
kept_length nodes root path place depth e = sym (length-take-le depth path (omega (arith, e, home_near nodes root path place)))
