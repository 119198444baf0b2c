-- The parts of a model, one by one.
use Rattle.san_base.proofs.NumberTests.{some_same}
use Rattle.std.proofs.Common.{◌≡◌, ℕ, zero, suc, ◌+◌, List, [], ◌∷◌, length, refl, ap, sym, ◌∙◌, arith, take, Some}
use Rattle.std.specs.Prelude.{slice_get}
use Rattle.std.proofs.lemmas.List.Sums.{sum_by-cons}
use Rattle.san_check.specs.declared.model.Model.{Model}
use Rattle.san_flat.specs.Networks.{atomic_at}
use Rattle.san_flat.specs.inner.Models.{acts_in, part_of, parts_from}
use Rattle.san_net.specs.Laid.{acts_of}
use Rattle.san_net.specs.declared.part.Part.{Part}
use Rattle.san_tree.specs.declared.instance.Instance.{Instance}

pub acts-cons : (m : Model) (i : Instance) (leaves : List Instance) → acts_in m (i ∷ leaves) ≡ length (atomic_at m.atomics i.atomic).acts + acts_in m leaves
acts-cons m i leaves = sum_by-cons (λ k. length (atomic_at m.atomics k.atomic).acts) i leaves

pub parts-acts : (m : Model) (leaf first : ℕ) (leaves : List Instance) → acts_of (parts_from m leaf first leaves) ≡ acts_in m leaves
parts-acts m leaf first [] = refl
parts-acts m leaf first (i ∷ leaves) =
    let here = sum_by-cons (λ (p : Part). length p.atomic.acts) (part_of m leaf first i) (parts_from m (leaf + 1) (first + length (atomic_at m.atomics i.atomic).acts) leaves) in
    let there = acts-cons m i leaves in
    let rest = parts-acts m (leaf + 1) (first + length (atomic_at m.atomics i.atomic).acts) leaves in
    omega (arith, here, there, rest)

pub parts-long : (m : Model) (leaf first : ℕ) (leaves : List Instance) → length (parts_from m leaf first leaves) ≡ length leaves
parts-long m leaf first [] = refl
parts-long m leaf first (i ∷ leaves) = ap suc (parts-long m (leaf + 1) (first + length (atomic_at m.atomics i.atomic).acts) leaves)

-- the part of a number is that of the leaf of this number, and its first activity comes behind those of earlier parts
pub record IsPartOf (m : Model) (leaf first n : ℕ) (leaves : List Instance) (p : Part) : Type 0 where
  pub instance : Instance
  pub there : slice_get leaves n ≡ Some instance
  pub is : p ≡ part_of m (leaf + n) (first + acts_of (take n (parts_from m leaf first leaves))) instance

pub part-at : (m : Model) (leaf first : ℕ) (leaves : List Instance) (n : ℕ) (p : Part) → slice_get (parts_from m leaf first leaves) n ≡ Some p → IsPartOf m leaf first n leaves p
part-at m leaf first [] n p h = absurd cc
part-at m leaf first (i ∷ leaves) zero p h =
    let a : leaf ≡ leaf + 0 = omega arith in
    let b : first ≡ first + 0 = omega arith in
    record { instance = i; there = refl; is = sym (some_same (part_of m leaf first i) p h) ∙ ap (λ k. part_of m k first i) a ∙ ap (λ k. part_of m (leaf + 0) k i) b }
part-at m leaf first (i ∷ leaves) (suc n) p h =
    let acts = length (atomic_at m.atomics i.atomic).acts in
    let parts = parts_from m (leaf + 1) (first + acts) leaves in
    let rest = part-at m (leaf + 1) (first + acts) leaves n p h in
    let a : (leaf + 1) + n ≡ leaf + suc n = omega arith in
    let sum = sum_by-cons (λ (q : Part). length q.atomic.acts) (part_of m leaf first i) (take n parts) in
    let b : (first + acts) + acts_of (take n parts) ≡ first + acts_of (part_of m leaf first i ∷ take n parts) = omega (arith, sum) in
    record { instance = rest.instance; there = rest.there; is = rest.is ∙ ap (λ k. part_of m k ((first + acts) + acts_of (take n parts)) rest.instance) a ∙ ap (λ k. part_of m (leaf + suc n) k rest.instance) b }
