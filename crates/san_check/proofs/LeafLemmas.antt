-- Without a fault each leaf has its atomic, with the cells and the initial values that its node shows.
use Rattle.san_base.proofs.NumberTests.{some_same}
use Rattle.std.proofs.Common.{◌≡◌, ℕ, zero, suc, ◌+◌, ◌<◌, ◌≤◌, Bool, true, false, List, [], ◌∷◌, length, Option, Some, is_some, refl, sym, ap, subst, ◌∙◌, true≢false, arith}
use Rattle.std.proofs.lemmas.Option.{slice_get-map, slice_get_within, get_or_from_slice_get}
use Rattle.std.specs.Prelude.{unwrap_or, slice_get}
use Rattle.std.specs.Option.{option_map}
use Rattle.san_text.specs.declared.syntax.PlaceDecl.{PlaceDecl}
use Rattle.san_text.specs.declared.syntax.ActDecl.{ActDecl}
use Rattle.san_text.specs.declared.syntax.ModelDecl.{ModelDecl}
use Rattle.san_text.specs.declared.syntax.ModelDecl.TheVariants as model
use Rattle.san_text.specs.declared.syntax.RewardDecl.{RewardDecl}
use Rattle.san_tree.specs.declared.node.Node.{Node}
use Rattle.san_tree.specs.declared.node.Node.TheVariants.{Leaf, Join, Rep}
use Rattle.san_tree.specs.Places.{node_at}
use Rattle.san_net.specs.Apart.{AreApart}
use Rattle.san_net.specs.declared.atomic.Atomic.{Atomic}
use Rattle.san_check.specs.declared.place.Place.{Place}
use Rattle.san_check.specs.declared.known.Known.{Known}
use Rattle.san_check.specs.walk.Expression.{Places}
use Rattle.san_check.specs.walk.Atomic.{place_of, places_entries, all_places, acts_entries}
use Rattle.san_check.specs.walk.Composition.{Models, name_of, known_of, model_entries, models_entries, with_model, all_models}
use Rattle.san_check.specs.build.Composition.{capped, node_of, atomics_after, nodes_from, place_at, places_at, shown_at}
use Rattle.san_check.specs.build.Cells.{all_values, all_elements, elements_in, elements_from}
use Rattle.san_check.specs.build.Atomic.{atomic_of, atomic_in, atomics_from}
use Rattle.san_check.proofs.FreeLemmas.{Free, free_left, free_right}
use Rattle.san_check.proofs.ListedLemmas.{places_listed, places_few}
use Rattle.san_check.proofs.KeepsLemmas.{model_at, one_model_more}
use Rattle.san_check.proofs.PlacedLemmas.{places_placed}
use Rattle.san_check.proofs.CellLemmas.{as_many, cell_at, cells_apart}

-- a row of cells for each atomic
pub rows_each : (rewards : List RewardDecl) (ms : List ModelDecl) → length (elements_from ms) ≡ length (atomics_from rewards ms)
unfolding atomic_in elements_in
rows_each rewards [] = refl
rows_each rewards (model.Atomic name places acts ∷ ms) = ap suc (rows_each rewards ms)
rows_each rewards (model.Join name children shares ∷ ms) = rows_each rewards ms
rows_each rewards (model.Rep name of times shares ∷ ms) = rows_each rewards ms

abbrev pub IsRow : Atomic → List (ℕ × ℕ) → Type 0
IsRow x c = (length c ≡ length x.initial) × AreApart c

abbrev AreRows : List RewardDecl → List ModelDecl → Type 0
AreRows rewards ms = (a : ℕ) (x : Atomic) (c : List (ℕ × ℕ)) → slice_get (atomics_from rewards ms) a ≡ Some x → slice_get (elements_from ms) a ≡ Some c → IsRow x c

few_places : (places : List PlaceDecl) → Free (places_entries [] 0 places) → length places ≤ 256
few_places places f = let few = places_few [] 0 0 places (omega arith) (omega arith) f in omega (arith, few)

rows_more : (rewards : List RewardDecl) (known : Models) (m : ModelDecl) (ms : List ModelDecl) → Free (model_entries known m) → AreRows rewards ms → AreRows rewards (m ∷ ms)
unfolding model_entries atomic_in elements_in
rows_more rewards known (model.Atomic name places acts) ms f rest zero x c h k =
    let few = few_places places (free_left (places_entries [] 0 places) (acts_entries (all_places [] places) [] 0 acts) f) in
    subst (λ (y : Atomic). IsRow y c) (some_same (atomic_of name places acts rewards) x h)
    (subst (λ (d : List (ℕ × ℕ)). IsRow (atomic_of name places acts rewards) d) (some_same (all_elements 0 places) c k) (as_many 0 places, cells_apart places (omega (arith, few))))
rows_more rewards known (model.Atomic name places acts) ms f rest (suc a) x c h k = rest a x c h k
rows_more rewards known (model.Join name children shares) ms f rest a x c h k = rest a x c h k
rows_more rewards known (model.Rep name of times shares) ms f rest a x c h k = rest a x c h k

pub rows_good : (rewards : List RewardDecl) (known : Models) (n : ℕ) (ms : List ModelDecl) → Free (models_entries known n ms) → AreRows rewards ms
rows_good rewards known n [] f a x c h k = absurd (true≢false (sym (ap is_some h)))
rows_good rewards known n (m ∷ ms) f a x c h k =
    rows_more rewards known m ms (free_left (model_entries known m) (models_entries (with_model known m) (n + 1) ms) f.1) (rows_good rewards (with_model known m) (n + 1) ms (free_right (model_entries known m) (models_entries (with_model known m) (n + 1) ms) f.1)) a x c h k

abbrev is_leaf : Node → Bool
is_leaf (Leaf a) = true
is_leaf (Join children shares) = false
is_leaf (Rep of times shares) = false

abbrev atomic_number : Node → ℕ
atomic_number (Leaf a) = a
atomic_number (Join children shares) = 0
atomic_number (Rep of times shares) = 0

-- the atomic of a leaf, which is the n-th of these models, before which so many models and atomics stand
pub record LeafAt (rewards : List RewardDecl) (all : Models) (ms : List ModelDecl) (first atomics n a : ℕ) : Type 0 where
  pub behind : ℕ
  pub at : a ≡ atomics + behind
  pub name : List ℕ
  pub places : List PlaceDecl
  pub acts : List ActDecl
  pub atomic : slice_get (atomics_from rewards ms) behind ≡ Some (atomic_of name places acts rewards)
  pub cells : slice_get (elements_from ms) behind ≡ Some (all_elements 0 places)
  pub shows : (p : ℕ) → shown_at all (first + n) p ≡ place_at (all_places [] places) p
  pub free : Free (places_entries [] 0 places)

first_leaf : (rewards : List RewardDecl) (all known : Models) (m : ModelDecl) (ms : List ModelDecl) (first atomics a : ℕ) → slice_get all first ≡ Some (name_of m, known_of known m) → node_of all atomics m ≡ Leaf a → Free (model_entries known m)
    → LeafAt rewards all (m ∷ ms) first atomics zero a
unfolding node_of known_of model_entries atomic_in elements_in
first_leaf rewards all known (model.Atomic name places acts) ms first atomics a there is f =
    let same : atomics ≡ a = ap atomic_number is in
    let on : first + 0 ≡ first = omega arith in
    record {
      behind = 0;
      at = omega (arith, same);
      name = name;
      places = places;
      acts = acts;
      atomic = refl;
      cells = refl;
      shows = λ p. ap (λ (j : ℕ). shown_at all j p) on ∙ ap (λ (o : Option (List ℕ × Known)). place_at (places_at o) p) there;
      free = free_left (places_entries [] 0 places) (acts_entries (all_places [] places) [] 0 acts) f;
    }
first_leaf rewards all known (model.Join name children shares) ms first atomics a there is f = absurd (true≢false (sym (ap is_leaf is)))
first_leaf rewards all known (model.Rep name of times shares) ms first atomics a there is f = absurd (true≢false (sym (ap is_leaf is)))

later_leaf : (rewards : List RewardDecl) (all : Models) (m : ModelDecl) (ms : List ModelDecl) (first atomics n a : ℕ) → atomics < 4294967295 → LeafAt rewards all ms (first + 1) (atomics_after atomics m) n a → LeafAt rewards all (m ∷ ms) first atomics (suc n) a
unfolding atomic_in elements_in
later_leaf rewards all (model.Atomic name places acts) ms first atomics n a few more =
    let same : a ≡ capped (suc atomics) + more.behind = more.at in
    let on : first + suc n ≡ (first + 1) + n = omega arith in
    record { behind = suc more.behind; at = omega (arith, same, few); name = more.name; places = more.places; acts = more.acts; atomic = more.atomic; cells = more.cells; shows = λ p. ap (λ (j : ℕ). shown_at all j p) on ∙ more.shows p; free = more.free }
later_leaf rewards all (model.Join name children shares) ms first atomics n a few more =
    let on : first + suc n ≡ (first + 1) + n = omega arith in
    record { behind = more.behind; at = more.at; name = more.name; places = more.places; acts = more.acts; atomic = more.atomic; cells = more.cells; shows = λ p. ap (λ (j : ℕ). shown_at all j p) on ∙ more.shows p; free = more.free }
later_leaf rewards all (model.Rep name of times shares) ms first atomics n a few more =
    let on : first + suc n ≡ (first + 1) + n = omega arith in
    record { behind = more.behind; at = more.at; name = more.name; places = more.places; acts = more.acts; atomic = more.atomic; cells = more.cells; shows = λ p. ap (λ (j : ℕ). shown_at all j p) on ∙ more.shows p; free = more.free }

one_at_most : (atomics : ℕ) (m : ModelDecl) → atomics_after atomics m ≤ suc atomics
one_at_most atomics (model.Atomic name places acts) = let most : capped (suc atomics) ≤ suc atomics = omega arith in most
one_at_most atomics (model.Join name children shares) = let most : atomics ≤ suc atomics = omega arith in most
one_at_most atomics (model.Rep name of times shares) = let most : atomics ≤ suc atomics = omega arith in most

pub leaf_at : (rewards : List RewardDecl) (all known : Models) (first atomics : ℕ) (ms : List ModelDecl) → all ≡ all_models known ms → length known ≡ first → atomics + length ms ≤ 4294967295 → Free (models_entries known first ms)
    → (n a : ℕ) → n < length ms → node_at (nodes_from all atomics ms) n ≡ Leaf a → LeafAt rewards all ms first atomics n a
leaf_at rewards all known first atomics [] is long few f n a lt e = absurd (omega (arith, lt))
leaf_at rewards all known first atomics (m ∷ ms) is long few f zero a lt e =
    first_leaf rewards all known m ms first atomics a (model_at all known first m ms is long f) e (free_left (model_entries known m) (models_entries (with_model known m) (first + 1) ms) f.1)
leaf_at rewards all known first atomics (m ∷ ms) is long few f (suc n) a lt e =
    let longer = one_model_more known first m ms long f in
    let most = one_at_most atomics m in
    later_leaf rewards all m ms first atomics n a (omega (arith, few))
    (leaf_at rewards all (with_model known m) (first + 1) (atomics_after atomics m) ms is longer (omega (arith, few, most)) (free_right (model_entries known m) (models_entries (with_model known m) (first + 1) ms) f.1) n a (omega (arith, lt)) e)

abbrev pub initial_of : Place → ℕ
initial_of place = place.initial

-- what a leaf's node shows at a place is the initial value of its cells
pub value_at : (rewards : List RewardDecl) (all : Models) (ms : List ModelDecl) (n a : ℕ) → LeafAt rewards all ms 0 0 n a → (x : Atomic) (c : List (ℕ × ℕ)) (i p e : ℕ) → slice_get (atomics_from rewards ms) a ≡ Some x → slice_get (elements_from ms) a ≡ Some c → slice_get c i ≡ Some (p, e)
    → slice_get x.initial i ≡ option_map initial_of (shown_at all n p)
value_at rewards all ms n a leaf x c i p e of_x of_c here =
    let places = leaf.places in
    let at = leaf.at in
    let same : leaf.behind ≡ a = omega (arith, at) in
    let is_x = some_same (atomic_of leaf.name places leaf.acts rewards) x (sym leaf.atomic ∙ ap (slice_get (atomics_from rewards ms)) same ∙ of_x) in
    let is_c = some_same (all_elements 0 places) c (sym leaf.cells ∙ ap (slice_get (elements_from ms)) same ∙ of_c) in
    let few = few_places places leaf.free in
    let cell = cell_at 0 places i p e (omega (arith, few)) (ap (λ (t : List (ℕ × ℕ)). slice_get t i) is_c ∙ here) in
    let v = capped (unwrap_or cell.decl.initial 0) in
    let within = slice_get_within (all_values places) i v cell.value in
    let small : v ≤ 2147483647 = subst (λ (y : ℕ). y ≤ 2147483647) (get_or_from_slice_get (all_values places) i v v cell.value) ((places_placed places leaf.free).values i v within) in
    let uncapped : v ≡ unwrap_or cell.decl.initial 0 = omega (arith, small) in
    let f : PlaceDecl → List ℕ × Place = λ d. (d.name, place_of d) in
    let place = cell.at in
    let number : p ≡ cell.behind = omega (arith, place) in
    let from : n ≡ 0 + n = omega arith in
    let shows : shown_at all n p ≡ Some (place_of cell.decl) =
    ap (λ (j : ℕ). shown_at all j p) from ∙ leaf.shows p ∙ ap (λ (t : Places). place_at t p) (places_listed [] 0 places leaf.free)
    ∙ ap (option_map (λ (e : List ℕ × Place). e.1)) (slice_get-map f places p ∙ ap (λ (j : ℕ). option_map f (slice_get places j)) number ∙ ap (option_map f) cell.there) in
    sym (ap (λ (y : Atomic). slice_get y.initial i) is_x) ∙ cell.value ∙ ap (λ (y : ℕ). Some y) uncapped ∙ sym (ap (option_map initial_of) shows)
