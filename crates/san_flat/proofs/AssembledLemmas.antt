-- What is put together is the network of the model.
use Rattle.std.proofs.Common.{◌≡◌, ℕ, Bool, true, false, not, cond, List, [], ◌∷◌, ◌++◌, length, refl, ap, sym, ◌∙◌, map, filter, nat_eq, subst}
use Rattle.std.specs.Prelude.{slice_index_or}
use Rattle.std.specs.List.{All}
use Rattle.std.proofs.lemmas.List.{map-append}
use Rattle.std.proofs.lemmas.Option.{slice_get-get_or}
use Rattle.san_check.specs.declared.model.Model.{Model}
use Rattle.san_flat.proofs.LeafLemmas.{home-found}
use Rattle.san_flat.specs.Homes.{CellHome, homes_in, same}
use Rattle.san_flat.specs.Networks.{network_in, network_of_model, value_at}
use Rattle.san_flat.specs.inner.Models.{homes_of, leaves_of, parts_from, values_of}
use Rattle.san_flat.specs.inner.Sightings.{AreAmong, HasSeen, picked}
use Rattle.san_flat.specs.Paths.{path_text}
use Rattle.san_flat.specs.declared.seen.Seen.{Seen}
use Rattle.san_net.specs.Network.{network_of}
use Rattle.san_net.specs.Numbering.{firsts, is_often, often, ordered, repeated}
use Rattle.san_net.specs.declared.part.Part.{Part}
use Rattle.san_net.specs.declared.part.Reward.{Reward}
use Rattle.san_tree.specs.declared.instance.Instance.{Instance}

-- each leaf's homes are among all
among : (m : Model) → All (λ leaf. AreAmong (homes_of m) (homes_in m.tree.nodes m.tree.root m.cells leaf)) (leaves_of m)
among m k d l i h at = home-found m.tree.nodes m.tree.root m.cells (leaves_of m) k i (slice_index_or (leaves_of m) k d) h (slice_get-get_or (leaves_of m) k d l) at

pub all_among : (m : Model) (leaves : List Instance) → leaves ≡ leaves_of m → All (λ leaf. AreAmong (homes_of m) (homes_in m.tree.nodes m.tree.root m.cells leaf)) leaves
all_among m leaves e = subst (All (λ leaf. AreAmong (homes_of m) (homes_in m.tree.nodes m.tree.root m.cells leaf))) (sym e) (among m)

-- the values that are picked are those of what passes
picked-twice : (f g : CellHome → ℕ) (ks : List CellHome) → picked true (map f ks) (map g ks) ≡ map g (filter (λ k. nat_eq (f k) 2) ks)
picked-twice f g [] = refl
picked-twice f g (k ∷ ks) = by_test (nat_eq (f k) 2) (picked-twice f g ks)
  where
    by_test : (b : Bool) → picked true (map f ks) (map g ks) ≡ map g (filter (λ j. nat_eq (f j) 2) ks) → cond b (g k ∷ picked true (map f ks) (map g ks)) (picked true (map f ks) (map g ks)) ≡ map g (cond b (k ∷ filter (λ j. nat_eq (f j) 2) ks) (filter (λ j. nat_eq (f j) 2) ks))
    by_test true rest = ap (λ vs. g k ∷ vs) rest
    by_test false rest = rest

picked-once : (f g : CellHome → ℕ) (ks : List CellHome) → picked false (map f ks) (map g ks) ≡ map g (filter (λ k. not (nat_eq (f k) 2)) ks)
picked-once f g [] = refl
picked-once f g (k ∷ ks) = by_test (nat_eq (f k) 2) (picked-once f g ks)
  where
    by_test : (b : Bool) → picked false (map f ks) (map g ks) ≡ map g (filter (λ j. not (nat_eq (f j) 2)) ks) → cond b (picked false (map f ks) (map g ks)) (g k ∷ picked false (map f ks) (map g ks)) ≡ map g (cond (not b) (k ∷ filter (λ j. not (nat_eq (f j) 2)) ks) (filter (λ j. not (nat_eq (f j) 2)) ks))
    by_test true rest = rest
    by_test false rest = ap (λ vs. g k ∷ vs) rest

-- the initial values in the order of the places
pub values-ordered : (homes : List CellHome) (initial : List ℕ) (s : Seen) → HasSeen homes initial s → picked true s.counts.items s.values.items ++ picked false s.counts.items s.values.items ≡ map (value_at homes initial) (ordered same homes)
values-ordered homes initial s w =
    let f = often same homes in
    let g = value_at homes initial in
    let counts = w.recorded.counts ∙ ap (map f) w.recorded.keys in
    let values = w.values ∙ ap (map g) w.recorded.keys in
    ap (λ c. picked true c s.values.items ++ picked false c s.values.items) counts ∙ ap (λ v. picked true (map f (firsts same homes)) v ++ picked false (map f (firsts same homes)) v) values
    ∙ ap (λ v. v ++ picked false (map f (firsts same homes)) (map g (firsts same homes))) (picked-twice f g (firsts same homes))
    ∙ ap (λ v. map g (repeated same homes) ++ v) (picked-once f g (firsts same homes))
    ∙ sym (map-append g (repeated same homes) (filter (λ k. not (is_often same homes k)) (firsts same homes)))

pub network-is : (m : Model) (leaves : List Instance) (parts : List Part) (paths : List (List ℕ)) (initial : List ℕ) (shared : ℕ) (rewards : List Reward) → leaves ≡ leaves_of m → parts ≡ parts_from m 0 0 leaves → paths ≡ map (λ leaf. path_text m.system m.tree.nodes m.tree.root leaf.path) leaves → initial ≡ map (value_at (homes_of m) (values_of m)) (ordered same (homes_of m)) → shared ≡ length (repeated same (homes_of m)) → rewards ≡ m.rewards → network_of parts paths initial shared rewards ≡ network_of_model m
unfolding network_in
network-is m leaves parts paths initial shared rewards own of_parts of_paths of_initial of_shared of_rewards =
    ap (λ p. network_of p paths initial shared rewards) (of_parts ∙ ap (parts_from m 0 0) own)
    ∙ ap (λ p. network_of (parts_from m 0 0 (leaves_of m)) p initial shared rewards) (of_paths ∙ ap (map (λ leaf. path_text m.system m.tree.nodes m.tree.root leaf.path)) own)
    ∙ ap (λ v. network_of (parts_from m 0 0 (leaves_of m)) (map (λ leaf. path_text m.system m.tree.nodes m.tree.root leaf.path) (leaves_of m)) v shared rewards) of_initial
    ∙ ap (λ n. network_of (parts_from m 0 0 (leaves_of m)) (map (λ leaf. path_text m.system m.tree.nodes m.tree.root leaf.path) (leaves_of m)) (map (value_at (homes_of m) (values_of m)) (ordered same (homes_of m))) n rewards) of_shared
    ∙ ap (network_of (parts_from m 0 0 (leaves_of m)) (map (λ leaf. path_text m.system m.tree.nodes m.tree.root leaf.path) (leaves_of m)) (map (value_at (homes_of m) (values_of m)) (ordered same (homes_of m))) (length (repeated same (homes_of m)))) of_rewards
