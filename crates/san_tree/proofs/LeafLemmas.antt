-- Numbers of instances from numbers of the earlier nodes' instances.
use Rattle.std.proofs.Common.{◌≡◌, ℕ, zero, suc, ◌+◌, ◌*◌, ◌<◌, List, [], ◌∷◌, ◌++◌, length, refl, ap, sym, ◌∙◌, arith, length-append, min, drop, replicate, inl, inr, ◌⊎◌, take}
use Rattle.std.proofs.lemmas.List.{get_or-set_other, get_or_append_left, get_or_push, get_or-replicate, at_drop_more, get_or_past, take_more}
use Rattle.std.proofs.lemmas.Grind.{get_or-set_at}
use Rattle.std.proofs.lemmas.Bool.{cases_order, cases_lt}
use Rattle.std.proofs.Math.ListN.{set}
use Rattle.std.proofs.lemmas.List.{length-map}
use Rattle.std.specs.Prelude.{slice_index, slice_index_or}
use Rattle.std.specs.List.{sum_by}
use Rattle.std.proofs.lemmas.List.Sums.{sum_by-cons, sum_by-append}
use Rattle.san_tree.specs.declared.instance.Instance.{Instance}
use Rattle.san_tree.specs.declared.node.Node.{Node}
use Rattle.san_tree.specs.declared.node.Node.TheVariants.{Leaf, Join, Rep}
use Rattle.san_tree.specs.declared.limits.TheConstants.{MAX_NODES, MANY_LEAVES}
use Rattle.san_tree.specs.Instances.{below, joined, copied, instances_of, capped, grown, instances}
use Rattle.san_tree.specs.inner.Walks.{counted}

-- the counts are those of the table's leaves, 0 past its end
abbrev pub IsCounted : List ℕ → List (List Instance) → Type 0
IsCounted counts table = (k : ℕ) → slice_index counts k ≡ capped (length (slice_index_or table k []))

pub length-below : (c : ℕ) (instances : List Instance) → length (below c instances) ≡ length instances
length-below c instances = length-map instances _

joined-counted : (counts : List ℕ) (table : List (List Instance)) → IsCounted counts table → (c : ℕ) (children : List (List ℕ × ℕ)) → capped (sum_by (λ child. slice_index counts child.1) children) ≡ capped (length (joined table c children))
joined-counted counts table h c [] = refl
joined-counted counts table h c (child ∷ children) =
    let long = length-append (below c (slice_index_or table child.1 [])) (joined table (c + 1) children) in
    let one = length-below c (slice_index_or table child.1 []) in
    let rest = joined-counted counts table h (c + 1) children in
    let front : sum_by (λ child. slice_index counts child.1) (child ∷ children) ≡ slice_index counts child.1 + sum_by (λ child. slice_index counts child.1) children = sum_by-cons (λ child. slice_index counts child.1) child children in
    omega (arith, front, long, one, rest, h child.1)

pub sum-more : (counts : List ℕ) (children : List (List ℕ × ℕ)) (i : ℕ) (child : List ℕ × ℕ) (total n : ℕ) → i < length children → child ≡ slice_index_or children i child → n ≡ slice_index counts child.1 → total ≡ capped (sum_by (λ x. slice_index counts x.1) (take i children)) → min (total + n) MANY_LEAVES ≡ capped (sum_by (λ x. slice_index counts x.1) (take (i + 1) children))
sum-more counts children i child total n h is e t =
    let one : sum_by (λ x. slice_index counts x.1) (child ∷ []) ≡ slice_index counts child.1 + 0 = sum_by-cons (λ x. slice_index counts x.1) child [] in
    let cut : take (i + 1) children ≡ take i children ++ child ∷ [] = take_more children i child h ∙ ap (λ x. take i children ++ x ∷ []) (sym is) in
    let sum : sum_by (λ x. slice_index counts x.1) (take (i + 1) children) ≡ sum_by (λ x. slice_index counts x.1) (take i children) + sum_by (λ x. slice_index counts x.1) (child ∷ []) = ap (sum_by (λ x. slice_index counts x.1)) cut ∙ sum_by-append (λ x. slice_index counts x.1) (take i children) (child ∷ []) in
    omega (arith, one, sum, e, t)

copied-long : (instances : List Instance) (c times : ℕ) → length (copied instances c times) ≡ length instances * times
copied-long instances c zero = omega arith
copied-long instances c (suc times) =
    let long = length-append (below c instances) (copied instances (c + 1) times) in
    let one = length-below c instances in
    let rest = copied-long instances (c + 1) times in
    omega (arith, long, one, rest)

times-capped : (a b t : ℕ) → b ≡ capped a → capped (b * t) ≡ capped (a * t)
times-capped a b zero e = omega arith
times-capped a b (suc t) e = omega (arith, e, times-capped a b t e)

pub step-counted : (counts : List ℕ) (table : List (List Instance)) → IsCounted counts table → (node : Node) → capped (counted counts node) ≡ capped (length (instances_of table node))
step-counted counts table h (Leaf a) = refl
step-counted counts table h (Join children shares) = joined-counted counts table h 0 children
step-counted counts table h (Rep n times shares) =
    ap (λ k. capped (k * times)) (h n) ∙ times-capped (length (slice_index_or table n [])) _ times refl ∙ ap capped (sym (copied-long (slice_index_or table n []) 0 times))

-- after the first `at` nodes: some table of their instances that grows into the whole, and its numbers, 0 behind it
abbrev pub IsGrown : List ℕ → List Node → ℕ → Type 0
IsGrown counts nodes at = (table : List (List Instance)) × ((length table ≡ at) × IsCounted counts table × (grown table (drop at nodes) ≡ grown [] nodes))

counted-push : (counts : List ℕ) (table : List (List Instance)) (at n : ℕ) (instances : List Instance) → IsCounted counts table → length table ≡ at → at < length counts → n ≡ capped (length instances) → IsCounted (set counts at n) (table ++ instances ∷ [])
counted-push counts table at n instances h e r v k = by_order (cases_order k at)
  where
    by_order : (k ≡ at) ⊎ ((k < at) ⊎ (at < k)) → slice_index (set counts at n) k ≡ capped (length (slice_index_or (table ++ instances ∷ []) k []))
    by_order (inl here) =
        get_or-set_at counts at k n 0 here r ∙ v ∙ ap (λ x. capped (length x)) (sym (get_or_push table instances [] k (e ∙ sym here)))
    by_order (inr (inl below)) =
        get_or-set_other counts at k n 0 (λ q. omega (arith, q, below)) ∙ h k ∙ ap (λ x. capped (length x)) (sym (get_or_append_left table (instances ∷ []) [] k (omega (arith, below, e))))
    by_order (inr (inr past)) =
        get_or-set_other counts at k n 0 (λ q. omega (arith, q, past)) ∙ h k ∙ ap (λ x. capped (length x)) (get_or_past table k [] (omega (arith, past, e)) ∙ sym (get_or_past (table ++ instances ∷ []) k [] (omega (arith, past, e, length-append table (instances ∷ [])))))

pub grown-more : (counts : List ℕ) (nodes : List Node) (at n : ℕ) (node : Node) → at < length nodes → node ≡ slice_index_or nodes at node → at < length counts → n ≡ capped (counted counts node) → IsGrown counts nodes at → IsGrown (set counts at n) nodes (at + 1)
grown-more counts nodes at n node r i f v (table, (e, h, g)) =
    let instances = instances_of table node in
    let opened = ap (λ front. grown table (front ∷ drop (at + 1) nodes)) i in
    (table ++ instances ∷ [], (omega (arith, e, length-append table (instances ∷ [])), counted-push counts table at n instances h e f (v ∙ step-counted counts table h node), opened ∙ sym (at_drop_more (grown table) nodes at node r) ∙ g))

pub grown-start : (nodes : List Node) → IsGrown (replicate MAX_NODES 0) nodes 0
grown-start nodes = ([], (refl, (λ k. zeros k), refl))
  where
    zeros : (k : ℕ) → slice_index (replicate MAX_NODES 0) k ≡ 0
    zeros k = elim (cases_lt k MAX_NODES) [ inl h ↦ get_or-replicate MAX_NODES k 0 0 h | inr h ↦ get_or_past (replicate MAX_NODES 0) k 0 h ]
