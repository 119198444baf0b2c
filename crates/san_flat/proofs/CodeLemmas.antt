-- What the loops of a flattening keep, over plain lists.
use Rattle.san_base.proofs.NumberTests.{some_same}
use Rattle.std.proofs.Common.{◌≡◌, ℕ, zero, suc, ◌+◌, ◌<◌, ◌≤◌, Bool, true, false, cond, List, [], ◌∷◌, ◌++◌, length, refl, ap, sym, ◌∙◌, subst, arith, map, take, drop, Some, None, filter, nat_eq, append_assoc, append-nil, length-append, get_or, fold}
use Rattle.std.specs.Prelude.{position, slice_get, slice_index, is_some}
use Rattle.std.specs.List.{count_by, list_any, position_or_len}
use Rattle.std.proofs.Math.Bool.{true≢false}
use Rattle.std.proofs.lemmas.Bool.{le-leb}
use Rattle.std.proofs.lemmas.List.{length-map, map-append, take-append-drop, take_more}
use Rattle.std.proofs.lemmas.List.Sums.{fold-append, length-filter}
use Rattle.std.proofs.lemmas.Option.{get_or_from_slice_get, slice_get-get_or, slice_get_within}
use Rattle.san_flat.proofs.HomeLemmas.{same-equiv}
use Rattle.san_flat.proofs.ListLemmas.{get-map}
use Rattle.san_flat.proofs.NumberLemmas.{at-number, count-through}
use Rattle.san_flat.proofs.SightingLemmas.{eq-seen}
use Rattle.san_check.specs.declared.model.Model.{Model}
use Rattle.san_flat.specs.Homes.{CellHome, homes_in, same, home_of_key}
use Rattle.san_flat.specs.Networks.{slot_of, values_in}
use Rattle.san_flat.specs.inner.Models.{homes_from, values_from}
use Rattle.san_flat.specs.inner.Sightings.{AreAmong, AreNumbers, Sees}
use Rattle.san_flat.specs.declared.home.HomeKey.{HomeKey}
use Rattle.san_flat.specs.declared.numbers.Numbers.{Numbers}
use Rattle.san_flat.specs.declared.seen.Seen.{Seen}
use Rattle.san_net.specs.declared.part.Slot.{Slot}
use Rattle.san_tree.specs.declared.instance.Instance.{Instance}
use Rattle.san_net.proofs.RankLemmas.{recorded-ranked}
use Rattle.san_net.proofs.SeenLemmas.{position-map}
use Rattle.san_net.specs.Numbering.{AreRecorded, added, all_of, firsts, is_often, number, often, ranked, repeated}

-- a home that is there is found at its position
found-position : (keys : List HomeKey) (h : HomeKey) → list_any (same (home_of_key h)) (map home_of_key keys) ≡ true → position (eq-seen h) keys ≡ Some (position_or_len (same (home_of_key h)) (map home_of_key keys))
found-position keys h there =
    let at = position-map home_of_key (same (home_of_key h)) keys in
    let low = slice_get_within (map home_of_key keys) (position_or_len (same (home_of_key h)) (map home_of_key keys)) (home_of_key h) (at-number (map home_of_key keys) (home_of_key h) there) in
    let long = length-map keys home_of_key in
    ap (λ b. cond b (Some (position_or_len (eq-seen h) keys)) None) (le-leb (suc (position_or_len (eq-seen h) keys)) (length keys) (omega (arith, at, low, long)))
    ∙ ap Some (sym at)

pub place-found : (homes : List CellHome) (n : Numbers) (h : HomeKey) (at : ℕ) → AreNumbers homes n → list_any (same (home_of_key h)) homes ≡ true → position (eq-seen h) n.homes.keys ≡ Some at → slice_index n.places.items at ≡ number same homes (home_of_key h)
place-found homes n h at a there is =
    let own = a.all (home_of_key h) ∙ there in
    let here = some_same _ at (sym (found-position n.homes.keys h own) ∙ is) in
    let stands = at-number (map home_of_key n.homes.keys) (home_of_key h) own in
    ap (λ xs. slice_index xs at) a.places
    ∙ get_or_from_slice_get (map (number same homes) (map home_of_key n.homes.keys)) at (number same homes (home_of_key h)) 0
    (get-map (number same homes) (map home_of_key n.homes.keys) at (home_of_key h) (ap (slice_get (map home_of_key n.homes.keys)) (sym here) ∙ stands))

pub place-lost : (homes : List CellHome) (n : Numbers) (h : HomeKey) → AreNumbers homes n → list_any (same (home_of_key h)) homes ≡ true → position (eq-seen h) n.homes.keys ≡ None → ⊥
place-lost homes n h a there is = true≢false (ap is_some (sym (found-position n.homes.keys h (a.all (home_of_key h) ∙ there)) ∙ is))

-- so many were seen twice
pub twice-counted : (homes : List CellHome) (ks : List CellHome) (counts : List ℕ) → AreRecorded same homes ks counts → count_by (λ n. nat_eq n 2) counts ≡ length (repeated same homes)
twice-counted homes ks counts t =
    ap (count_by (λ n. nat_eq n 2)) (t.counts ∙ ap (map (often same homes)) t.keys)
    ∙ count-through (often same homes) (λ n. nat_eq n 2) (is_often same homes) (firsts same homes) (λ _ _. refl)
    ∙ sym (length-filter (is_often same homes) (firsts same homes))

pub numbers-are : (homes : List CellHome) (ks : List CellHome) (counts : List ℕ) (shared : ℕ) → AreRecorded same homes ks counts → shared ≡ length (repeated same homes) → ranked 0 shared counts ≡ map (number same homes) ks
numbers-are homes ks counts shared t e =
    ap (λ n. ranked 0 n counts) (e ∙ ap (λ xs. length (filter (is_often same homes) xs)) (sym t.keys)) ∙ recorded-ranked same same-equiv homes ks counts t

-- one more slot
pub slot-turn : {X : Type 0} (f : X → CellHome) (homes : List CellHome) (cells all : List X) (k : ℕ) (d : X) (h : CellHome) (s : Slot) (slots more : List Slot) → k < length cells → cells ≡ all → h ≡ f (get_or cells k d) → AreAmong homes (map f all) → (list_any (same h) homes ≡ true → s ≡ slot_of homes h) → more ≡ slots ++ s ∷ [] → slots ≡ map (slot_of homes) (map f (take k cells)) → more ≡ map (slot_of homes) (map f (take (k + 1) cells))
slot-turn f homes cells all k d h s slots more l own is among slot added sofar =
    let at : slice_get (map f all) k ≡ Some h = ap (λ xs. slice_get (map f xs) k) (sym own) ∙ get-map f cells k (get_or cells k d) (slice_get-get_or cells k d l) ∙ ap Some (sym is) in
    let new : s ≡ slot_of homes (f (get_or cells k d)) = slot (among k h at) ∙ ap (slot_of homes) is in
    added ∙ ap (λ xs. xs ++ s ∷ []) sofar ∙ ap (λ x. map (slot_of homes) (map f (take k cells)) ++ x ∷ []) new
    ∙ sym (ap (λ xs. map (slot_of homes) (map f xs)) (take_more cells k d l) ∙ ap (map (slot_of homes)) (map-append f (take k cells) (get_or cells k d ∷ [])) ∙ map-append (slot_of homes) (map f (take k cells)) (f (get_or cells k d) ∷ []))

-- the rows of one more
all-append : {X : Type 0} (xss yss : List (List X)) → all_of (xss ++ yss) ≡ all_of xss ++ all_of yss
all-append [] yss = refl
all-append (xs ∷ xss) yss = ap (λ r. xs ++ r) (all-append xss yss) ∙ sym (append_assoc xs (all_of xss) (all_of yss))

pub rows-more : {X Y : Type 0} (f : X → List Y) (xs : List X) (k : ℕ) (x : X) → k < length xs → x ≡ get_or xs k x → all_of (map f (take (k + 1) xs)) ≡ all_of (map f (take k xs)) ++ f x
rows-more f xs k x l is =
    ap (λ ys. all_of (map f ys)) (take_more xs k x l ∙ ap (λ y. take k xs ++ y ∷ []) (sym is)) ∙ ap all_of (map-append f (take k xs) (x ∷ [])) ∙ all-append (map f (take k xs)) (f x ∷ []) ∙ ap (λ r. all_of (map f (take k xs)) ++ r) (append-nil (f x))

pub rows-split : {X Y : Type 0} (f : X → List Y) (xs : List X) (k : ℕ) → all_of (map f xs) ≡ all_of (map f (take k xs)) ++ all_of (map f (drop k xs))
rows-split f xs zero = refl
rows-split f [] (suc k) = refl
rows-split f (x ∷ xs) (suc k) = ap (λ r. f x ++ r) (rows-split f xs k) ∙ sym (append_assoc (f x) (all_of (map f (take k xs))) (all_of (map f (drop k xs))))

-- the different homes only grow
added-grows : (ks : List CellHome) (x : CellHome) → length ks ≤ length (added same ks x)
added-grows ks x = by_test (list_any (same x) ks)
  where
    by_test : (b : Bool) → length ks ≤ length (cond b ks (ks ++ x ∷ []))
    by_test true = omega arith
    by_test false = omega (arith, length-append ks (x ∷ []))

fold-grows : (ks xs : List CellHome) → length ks ≤ length (fold (added same) ks xs)
fold-grows ks [] = omega arith
fold-grows ks (x ∷ xs) = let rest = fold-grows (added same ks x) xs in omega (arith, added-grows ks x, rest)

pub firsts-grow : (xs ys : List CellHome) (n : ℕ) → n < length (firsts same xs) → n < length (firsts same (xs ++ ys))
firsts-grow xs ys n l =
    let all = ap length (fold-append (added same) [] xs ys) in
    omega (arith, l, all, fold-grows (firsts same xs) ys)

-- too many of the first cells of a row are too many
pub row-many : {X : Type 0} (f : X → CellHome) (done : List CellHome) (cells all : List X) (k : ℕ) (d : X) (h : CellHome) (n : ℕ) → k < length cells → cells ≡ all → h ≡ f (get_or cells k d) → n < length (firsts same ((done ++ map f (take k cells)) ++ h ∷ [])) → n < length (firsts same (done ++ map f all))
row-many f done cells all k d h n l own is many =
    let front : map f (take (k + 1) cells) ≡ map f (take k cells) ++ h ∷ [] = ap (map f) (take_more cells k d l) ∙ map-append f (take k cells) (get_or cells k d ∷ []) ∙ ap (λ x. map f (take k cells) ++ x ∷ []) (sym is) in
    let whole : map f all ≡ map f (take (k + 1) cells) ++ map f (drop (k + 1) cells) = ap (map f) (sym own ∙ sym (take-append-drop (k + 1) cells)) ∙ map-append f (take (k + 1) cells) (drop (k + 1) cells) in
    let same-list : ((done ++ map f (take k cells)) ++ h ∷ []) ++ map f (drop (k + 1) cells) ≡ done ++ map f all =
    ap (λ xs. xs ++ map f (drop (k + 1) cells)) (append_assoc done (map f (take k cells)) (h ∷ []) ∙ ap (λ xs. done ++ xs) (sym front)) ∙ append_assoc done (map f (take (k + 1) cells)) (map f (drop (k + 1) cells)) ∙ ap (λ xs. done ++ xs) (sym whole) in
    subst (λ xs. n < length (firsts same xs)) same-list (firsts-grow ((done ++ map f (take k cells)) ++ h ∷ []) (map f (drop (k + 1) cells)) n many)

-- too many of the first leaves are too many
pub leaves-many : (m : Model) (leaves : List Instance) (k n : ℕ) → n < length (firsts same (homes_from m (take k leaves))) → n < length (firsts same (homes_from m leaves))
leaves-many m leaves k n many =
    let row = homes_in m.tree.nodes m.tree.root m.cells in
    subst (λ xs. n < length (firsts same xs)) (sym (rows-split row leaves k)) (firsts-grow (homes_from m (take k leaves)) (homes_from m (drop k leaves)) n many)

-- one more leaf is seen
pub leaves-seen : (m : Model) (leaves : List Instance) (k : ℕ) (i : Instance) (b : Bool) (old new : Seen) → k < length leaves → i ≡ get_or leaves k i → ((homes : List CellHome) (initial : List ℕ) → Sees true homes initial old → Sees b (homes ++ homes_in m.tree.nodes m.tree.root m.cells i) (initial ++ values_in m.atomics i) new) → Sees true (homes_from m (take k leaves)) (values_from m (take k leaves)) old → Sees b (homes_from m (take (k + 1) leaves)) (values_from m (take (k + 1) leaves)) new
leaves-seen m leaves k i b old new l is more sofar =
    let seen = more (homes_from m (take k leaves)) (values_from m (take k leaves)) sofar in
    let homes = sym (rows-more (homes_in m.tree.nodes m.tree.root m.cells) leaves k i l is) in
    let values = sym (rows-more (values_in m.atomics) leaves k i l is) in
    subst (λ vs. Sees b (homes_from m (take (k + 1) leaves)) vs new) values (subst (λ hs. Sees b hs (values_from m (take k leaves) ++ values_in m.atomics i) new) homes seen)

pub all-fit : (b : Bool) (homes : List CellHome) (initial : List ℕ) (s : Seen) → b ≡ true → Sees b homes initial s → Sees true homes initial s
all-fit b homes initial s e h = subst (λ c. Sees c homes initial s) e h

pub too-many : (b : Bool) (homes : List CellHome) (initial : List ℕ) (s : Seen) → b ≡ false → Sees b homes initial s → 65536 < length (firsts same homes)
too-many b homes initial s e h = subst (λ c. Sees c homes initial s) e h
