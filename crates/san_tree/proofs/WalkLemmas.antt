-- The walk over the leaves, node by node.
use Rattle.std.proofs.Common.{◌≡◌, ℕ, zero, suc, ◌+◌, ◌<◌, ◌≤◌, List, [], ◌∷◌, ◌++◌, length, refl, ap, sym, ◌∙◌, subst, arith, map, take, append_assoc, append-nil, length-append, inl, inr, ◌⊎◌, Some, None}
use Rattle.std.specs.Prelude.{slice_get, unwrap_or, is_some}
use Rattle.std.proofs.lemmas.Option.{slice_get_cases}
use Rattle.std.proofs.Math.Bool.{true≢false}
use Rattle.std.specs.Prelude.{slice_index_or}
use Rattle.std.proofs.lemmas.List.{length-take-le, map-append, take_more, get_or_append_left, get_or_push, take_all, take-append-le, get_or_past, length-take, get_or-take}
use Rattle.san_tree.specs.declared.instance.Instance.{Instance}
use Rattle.san_tree.specs.declared.node.Node.{Node}
use Rattle.san_tree.specs.Instances.{below, joined, copied, instances_of, grown, instances, onto}
use Rattle.san_tree.specs.inner.Walks.{earlier}

some-inj : {x y : Node} → Some x ≡ Some y → x ≡ y
some-inj {x} h = ap (λ o. unwrap_or o x) h

some-none : {x : Node} → Some x ≡ None → ⊥
some-none h = true≢false (ap is_some h)

abbrev at_path : ℕ → List ℕ → Instance
at_path atomic path = record { path = path; atomic = atomic }

pub onto-below : (path : List ℕ) (c : ℕ) (xs : List Instance) → map (onto path) (below c xs) ≡ map (onto (path ++ c ∷ [])) xs
onto-below path c [] = refl
onto-below path c (i ∷ xs) = ap (λ p. at_path i.atomic p ∷ map (onto path) (below c xs)) (sym (append_assoc path (c ∷ []) i.path)) ∙ ap (λ ys. onto (path ++ c ∷ []) i ∷ ys) (onto-below path c xs)

joined-append : (table : List (List Instance)) (c : ℕ) (xs : List (List ℕ × ℕ)) (x : List ℕ × ℕ) → joined table c (xs ++ x ∷ []) ≡ joined table c xs ++ below (c + length xs) (slice_index_or table x.1 [])
joined-append table c [] x =
    let e : c ≡ c + 0 = omega arith in
    append-nil (below c (slice_index_or table x.1 [])) ∙ ap (λ k. below k (slice_index_or table x.1 [])) e
joined-append table c (y ∷ xs) x =
    let e : (c + 1) + length xs ≡ c + length (y ∷ xs) = omega arith in
    ap (λ r. below c (slice_index_or table y.1 []) ++ r) (joined-append table (c + 1) xs x ∙ ap (λ k. joined table (c + 1) xs ++ below k (slice_index_or table x.1 [])) e) ∙ sym (append_assoc (below c (slice_index_or table y.1 [])) (joined table (c + 1) xs) (below (c + length (y ∷ xs)) (slice_index_or table x.1 [])))

pub joined-more : (table : List (List Instance)) (xs : List (List ℕ × ℕ)) (i : ℕ) (x : List ℕ × ℕ) → i < length xs → x ≡ slice_index_or xs i x → joined table 0 (take (i + 1) xs) ≡ joined table 0 (take i xs) ++ below i (slice_index_or table x.1 [])
joined-more table xs i x h e =
    let long : 0 + length (take i xs) ≡ i = omega (arith, length-take-le i xs (omega (arith, h))) in
    ap (joined table 0) (take_more xs i x h) ∙ joined-append table 0 (take i xs) (slice_index_or xs i x) ∙ ap (λ k. joined table 0 (take i xs) ++ below k (slice_index_or table (slice_index_or xs i x).1 [])) long ∙ ap (λ (k : List ℕ × ℕ). joined table 0 (take i xs) ++ below i (slice_index_or table k.1 [])) (sym e)

copied-end : (xs : List Instance) (c times : ℕ) → copied xs c (suc times) ≡ copied xs c times ++ below (c + times) xs
copied-end xs c zero =
    let e : c ≡ c + 0 = omega arith in
    append-nil (below c xs) ∙ ap (λ k. below k xs) e
copied-end xs c (suc times) =
    let e : (c + 1) + times ≡ c + suc times = omega arith in
    ap (λ r. below c xs ++ r) (copied-end xs (c + 1) times ∙ ap (λ k. copied xs (c + 1) times ++ below k xs) e) ∙ sym (append_assoc (below c xs) (copied xs (c + 1) times) (below (c + suc times) xs))

pub copied-more : (xs : List Instance) (times : ℕ) → copied xs 0 (times + 1) ≡ copied xs 0 times ++ below times xs
copied-more xs times =
    let up : times + 1 ≡ suc times = omega arith in
    let e : 0 + times ≡ times = omega arith in
    ap (copied xs 0) up ∙ copied-end xs 0 times ∙ ap (λ k. copied xs 0 times ++ below k xs) e

grown-front : (table : List (List Instance)) (ns : List Node) → (more : List (List Instance)) × ((grown table ns ≡ table ++ more) × (length more ≡ length ns))
grown-front table [] = ([], (sym (append-nil table), refl))
grown-front table (n ∷ ns) =
    let rest = grown-front (table ++ instances_of table n ∷ []) ns in
    (instances_of table n ∷ rest.0, (rest.1.0 ∙ append_assoc table (instances_of table n ∷ []) rest.0, omega (arith, rest.1.1)))

pub grown-long : (nodes : List Node) → length (grown [] nodes) ≡ length nodes
grown-long nodes = let g = grown-front [] nodes in ap length g.1.0 ∙ g.1.1

grown-at : (table : List (List Instance)) (ns : List Node) (i : ℕ) (node : Node) → i < length ns → node ≡ slice_index_or ns i node → slice_index_or (grown table ns) (length table + i) [] ≡ instances_of (take (length table + i) (grown table ns)) node
grown-at table [] i node h e = absurd (omega (arith, h))
grown-at table (n ∷ ns) zero node h e =
    let g = grown-front (table ++ instances_of table n ∷ []) ns in
    let at : length table + 0 ≡ length table = omega arith in
    let front : grown table (n ∷ ns) ≡ (table ++ instances_of table n ∷ []) ++ g.0 = g.1.0 in
    let read : slice_index_or (grown table (n ∷ ns)) (length table) [] ≡ instances_of table n = ap (λ t. slice_index_or t (length table) []) front ∙ get_or_append_left (table ++ instances_of table n ∷ []) g.0 [] (length table) (omega (arith, length-append table (instances_of table n ∷ []))) ∙ get_or_push table (instances_of table n) [] (length table) refl in
    let cut : take (length table) (grown table (n ∷ ns)) ≡ table = ap (take (length table)) (front ∙ append_assoc table (instances_of table n ∷ []) g.0) ∙ take-append-le (length table) table (instances_of table n ∷ g.0) (omega arith) ∙ take_all (length table) table (omega arith) in
    ap (λ k. slice_index_or (grown table (n ∷ ns)) k []) at ∙ read ∙ ap (λ t. instances_of t n) (sym cut) ∙ ap (λ k. instances_of (take k (grown table (n ∷ ns))) n) (sym at) ∙ ap (instances_of (take (length table + 0) (grown table (n ∷ ns)))) (sym e)
grown-at table (n ∷ ns) (suc i) node h e =
    let long : length (table ++ instances_of table n ∷ []) + i ≡ length table + suc i = omega (arith, length-append table (instances_of table n ∷ [])) in
    subst (λ k. slice_index_or (grown table (n ∷ ns)) k [] ≡ instances_of (take k (grown table (n ∷ ns))) node) long (grown-at (table ++ instances_of table n ∷ []) ns i node (omega (arith, h)) e)

pub instances-at : (nodes : List Node) (n : ℕ) (node : Node) → n < length nodes → node ≡ slice_index_or nodes n node → instances nodes n ≡ instances_of (earlier nodes n) node
instances-at nodes n node h e =
    let z : 0 + n ≡ n = omega arith in
    subst (λ k. slice_index_or (grown [] nodes) k [] ≡ instances_of (take k (grown [] nodes)) node) z (grown-at [] nodes n node h e)

-- what one more child adds
pub more-leaves : (out0 out1 out2 : List Instance) (path here : List ℕ) (done more all : List Instance) → out1 ≡ out0 ++ map (onto path) done → out2 ≡ out1 ++ map (onto here) more → here ≡ path → all ≡ done ++ more → out2 ≡ out0 ++ map (onto path) all
more-leaves out0 out1 out2 path here done more all e f h g =
    f ∙ ap (λ p. out1 ++ map (onto p) more) h ∙ ap (λ xs. xs ++ map (onto path) more) e ∙ append_assoc out0 (map (onto path) done) (map (onto path) more) ∙ ap (λ xs. out0 ++ xs) (sym (map-append (onto path) done more) ∙ ap (map (onto path)) (sym g))

pub instances-get : (nodes : List Node) (n : ℕ) (node read : Node) → Some read ≡ slice_get nodes n → read ≡ node → instances nodes n ≡ instances_of (earlier nodes n) node
instances-get nodes n node read e r = by_case ((slice_get_cases nodes n).1)
  where
    by_case : ((x : Node) × (n < length nodes) × (slice_get nodes n ≡ Some x) × (slice_index_or nodes n x ≡ x)) ⊎ ((length nodes ≤ n) × (slice_get nodes n ≡ None)) → instances nodes n ≡ instances_of (earlier nodes n) node
    by_case (inl h) =
        let one : read ≡ h.0 = some-inj (e ∙ h.2) in
        instances-at nodes n h.0 h.1 (sym h.3) ∙ ap (instances_of (earlier nodes n)) (sym one ∙ r)
    by_case (inr h) = absurd (some-none (e ∙ h.1))

pub instances-none : (nodes : List Node) (n : ℕ) → None ≡ slice_get nodes n → instances nodes n ≡ []
instances-none nodes n e = by_case ((slice_get_cases nodes n).1)
  where
    by_case : ((x : Node) × (n < length nodes) × (slice_get nodes n ≡ Some x) × (slice_index_or nodes n x ≡ x)) ⊎ ((length nodes ≤ n) × (slice_get nodes n ≡ None)) → instances nodes n ≡ []
    by_case (inl h) = absurd (some-none (sym (e ∙ h.2)))
    by_case (inr h) = get_or_past (grown [] nodes) n [] (omega (arith, h.0, grown-long nodes))

pub leaf-instance : (out : List Instance) (path : List ℕ) (atomic : ℕ) (here : Instance) (xs : List Instance) → (here.path ≡ path) × (here.atomic ≡ atomic) → xs ≡ at_path atomic [] ∷ [] → out ++ here ∷ [] ≡ out ++ map (onto path) xs
leaf-instance out path atomic here xs is e =
    ap (λ p. out ++ at_path here.atomic p ∷ []) is.0 ∙ ap (λ a. out ++ at_path a path ∷ []) is.1 ∙ ap (λ p. out ++ at_path atomic p ∷ []) (sym (append-nil path)) ∙ ap (λ ys. out ++ map (onto path) ys) (sym e)

-- a child at or past its node, or without a leaf, adds nothing
pub no-child : (nodes : List Node) (n child : ℕ) → n ≤ child → slice_index_or (earlier nodes n) child [] ≡ []
no-child nodes n child h = get_or_past (earlier nodes n) child [] (omega (arith, h, length-take n (grown [] nodes)))

pub own-child : (nodes : List Node) (n child : ℕ) → child < n → slice_index_or (earlier nodes n) child [] ≡ instances nodes child
own-child nodes n child h = get_or-take n (grown [] nodes) child [] h

pub onto-nothing : (xs : List Instance) → map (onto []) xs ≡ xs
onto-nothing [] = refl
onto-nothing (x ∷ xs) = ap (λ ys. x ∷ ys) (onto-nothing xs)

pub from-nothing : (nodes nodes2 : List Node) (root : ℕ) (start out : List Instance) (path : List ℕ) → nodes ≡ nodes2 → start ≡ [] → path ≡ [] → out ≡ start ++ map (onto path) (instances nodes root) → out ≡ instances nodes2 root
from-nothing nodes nodes2 root start out path n s p e =
    e ∙ ap (λ xs. xs ++ map (onto path) (instances nodes root)) s ∙ ap (λ q. map (onto q) (instances nodes root)) p ∙ onto-nothing (instances nodes root) ∙ ap (λ xs. instances xs root) n

-- a child that is walked
pub branch-more : (nodes : List Node) (n child c : ℕ) (path here : List ℕ) (out out2 : List Instance) → child < n → here ≡ path ++ c ∷ [] → out2 ≡ out ++ map (onto here) (instances nodes child) → out2 ≡ out ++ map (onto path) (below c (slice_index_or (earlier nodes n) child []))
branch-more nodes n child c path here out out2 less at e =
    let moved = ap (λ p. map (onto p) (instances nodes child)) at ∙ sym (onto-below path c (instances nodes child)) in
    let own = ap (λ xs. map (onto path) (below c xs)) (sym (own-child nodes n child less)) in
    e ∙ ap (λ xs. out ++ xs) (moved ∙ own)

-- a node whose children are all walked
pub all-walked : (out out2 : List Instance) (path : List ℕ) (done all : List Instance) → out2 ≡ out ++ map (onto path) done → done ≡ all → out2 ≡ out ++ map (onto path) all
all-walked out out2 path done all e is = e ∙ ap (λ xs. out ++ map (onto path) xs) is

pub nothing-more : (out : List Instance) (path : List ℕ) (xs : List Instance) → xs ≡ [] → out ≡ out ++ map (onto path) xs
nothing-more out path xs e = sym (append-nil out) ∙ ap (λ ys. out ++ map (onto path) ys) (sym e)
