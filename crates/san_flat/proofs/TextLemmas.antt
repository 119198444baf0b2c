-- The paths of leaves as texts: no blank in them, and two paths of one text are one.
use Rattle.san_base.proofs.Bools.{both_true, or_second}
use Rattle.std.proofs.Common.{◌≡◌, ℕ, ◌<◌, Bool, true, false, ◌&&◌, ◌||◌, List, [], ◌∷◌, ◌++◌, length, refl, ap, sym, ◌∙◌, subst, arith, map, drop, get_or, Some, nat_eq, nat_le, inl, inr, ◌⊎◌, append_assoc}
use Rattle.std.specs.Prelude.{IsTrue, slice_get, slice_index_or}
use Rattle.std.specs.Fmt.{decimal}
use Rattle.std.specs.List.{All, list_any}
use Rattle.std.specs.Str.Parse.{AllDigits, digits_value}
use Rattle.std.proofs.Math.Bool.{true≢false}
use Rattle.std.proofs.lemmas.Bool.Decides.{eqb_tells, nat_tests}
use Rattle.std.proofs.lemmas.Fmt.{decimal_is_IsNumeral}
use Rattle.std.proofs.lemmas.List.Folds.{list_any-append}
use Rattle.std.proofs.lemmas.Option.{slice_get-get_or}
use Rattle.std.proofs.lemmas.Str.Parse.{digit_at}
use Rattle.san_flat.proofs.ListLemmas.{get-map}
use Rattle.san_flat.proofs.TreePaths.{HasChild, IsLeaf, IsPath}
use Rattle.san_check.specs.Composed.{children_of}
use Rattle.san_flat.specs.Paths.{name_of, path_text, step_text, steps_text}
use Rattle.san_net.specs.Apart.{AreApart}
use Rattle.san_net.specs.Laid.{is_blank}
use Rattle.san_base.specs.Names.{each, is_digit, is_in_name, is_letter, is_name}
use Rattle.san_tree.specs.Places.{child_of, node_at}
use Rattle.san_tree.specs.declared.node.Node.{Node}
use Rattle.san_tree.specs.declared.node.Node.TheVariants.{Leaf, Join, Rep}

-- a text that no letter, digit or `_` begins
abbrev Stops : List ℕ → Type 0
Stops [] = Unit {0}
Stops (b ∷ text) = is_in_name b ≡ false

-- the name at the front ends where the text behind it begins
name-ends : (xs ys t u : List ℕ) → each is_in_name xs ≡ true → each is_in_name ys ≡ true → Stops t → Stops u → xs ++ t ≡ ys ++ u → (xs ≡ ys) × (t ≡ u)
name-ends [] [] t u a b s r e = (refl, e)
name-ends [] (y ∷ ys) t u a b s r e = absurd (true≢false (sym (both_true (is_in_name y) (each is_in_name ys) b).0 ∙ subst Stops e s))
name-ends (x ∷ xs) [] t u a b s r e = absurd (true≢false (sym (both_true (is_in_name x) (each is_in_name xs) a).0 ∙ subst Stops (sym e) r))
name-ends (x ∷ xs) (y ∷ ys) t u a b s r e =
    let rest = name-ends xs ys t u (both_true (is_in_name x) (each is_in_name xs) a).1 (both_true (is_in_name y) (each is_in_name ys) b).1 s r (ap (drop 1) e) in
    let same : x ≡ y = ap (λ zs. get_or zs 0 0) e in
    (ap (λ z. z ∷ xs) same ∙ ap (λ zs. y ∷ zs) rest.0, rest.1)

digits-in-name : (ds : List ℕ) → AllDigits 10 ds → each is_in_name ds ≡ true
digits-in-name [] h = refl
digits-in-name (d ∷ ds) h =
    let range = digit_at (d ∷ ds) 0 h (omega arith) in
    let digit : is_digit d ≡ true = grind (arith, nat_tests, range.0, range.1) in
    ap (λ b. b && each is_in_name ds) (or_second (is_letter d) (is_digit d || nat_eq d 95) (ap (λ b. b || nat_eq d 95) digit)) ∙ digits-in-name ds h.1

decimal-in-name : (n : ℕ) → n < 4096 → each is_in_name (decimal n) ≡ true
decimal-in-name n l = digits-in-name (decimal n) (decimal_is_IsNumeral n (omega (arith, l))).0.1

decimal-tells : (m n : ℕ) → m < 4096 → n < 4096 → decimal m ≡ decimal n → m ≡ n
decimal-tells m n k l e = sym (decimal_is_IsNumeral m (omega (arith, k))).1 ∙ ap (digits_value 10) e ∙ (decimal_is_IsNumeral n (omega (arith, l))).1

name-in-name : (name : List ℕ) → IsTrue (is_name name) → each is_in_name name ≡ true
name-in-name [] h = refl
name-in-name (b ∷ bs) h =
    let two = both_true (is_letter b) (each is_in_name bs) h in
    ap (λ x. (x || (is_digit b || nat_eq b 95)) && each is_in_name bs) two.0 ∙ two.1

-- the children of a node have different names
pub record AreNamed (node : Node) : Type 0 where
  pub names : All (λ c. IsTrue (is_name c.0)) (children_of node)
  pub apart : AreApart (map (λ c. c.0) (children_of node))

child-name : (children : List (List ℕ × ℕ)) → All (λ c. IsTrue (is_name c.0)) children → (c : ℕ) → c < length children → each is_in_name (name_of children c) ≡ true
child-name children h c l = name-in-name (name_of children c) (h c ([], 0) l)

name-at : (children : List (List ℕ × ℕ)) (c : ℕ) → c < length children → slice_get (map (λ x. x.0) children) c ≡ Some (name_of children c)
name-at children c l = get-map (λ (x : List ℕ × ℕ). x.0) children c (slice_index_or children c ([], 0)) (slice_get-get_or children c ([], 0) l)

step-tells : (node : Node) → AreNamed node → (c d : ℕ) → HasChild node c → HasChild node d → (t u : List ℕ) → Stops t → Stops u → step_text node c ++ t ≡ step_text node d ++ u → (c ≡ d) × (t ≡ u)
step-tells (Leaf _) named c d h i t u s r e = absurd h
step-tells (Join children shares) named c d h i t u s r e =
    let ends = name-ends (name_of children c) (name_of children d) t u (child-name children named.names c h) (child-name children named.names d i) s r (ap (drop 1) e) in
    (named.apart c d (name_of children d) (name-at children c h ∙ ap Some ends.0) (name-at children d i), ends.1)
step-tells (Rep node times shares) named c d h i t u s r e =
    let front = append_assoc (decimal c) (93 ∷ []) t in
    let other = append_assoc (decimal d) (93 ∷ []) u in
    let ends = name-ends (decimal c) (decimal d) (93 ∷ t) (93 ∷ u) (decimal-in-name c h) (decimal-in-name d i) refl refl (sym front ∙ ap (drop 1) e ∙ other) in
    (decimal-tells c d h i ends.0, ap (drop 1) ends.1)

step-stops : (node : Node) (c : ℕ) (t : List ℕ) → HasChild node c → Stops (step_text node c ++ t)
step-stops (Leaf _) c t h = absurd h
step-stops (Join children shares) c t h = refl
step-stops (Rep node times shares) c t h = refl

steps-stop : (nodes : List Node) (n : ℕ) (path : List ℕ) → IsPath nodes n path → Stops (steps_text nodes n path)
steps-stop nodes n [] h = tt
steps-stop nodes n (c ∷ path) h = step-stops (node_at nodes n) c (steps_text nodes (child_of (node_at nodes n) c) path) h.0

leaf-ends : (node : Node) (c : ℕ) → IsLeaf node → HasChild node c → ⊥
leaf-ends (Leaf _) c h i = i
leaf-ends (Join children shares) c h i = h
leaf-ends (Rep node times shares) c h i = h

steps-tell : (nodes : List Node) → ((n : ℕ) → AreNamed (node_at nodes n)) → (n : ℕ) (p q : List ℕ) → IsPath nodes n p → IsPath nodes n q → steps_text nodes n p ≡ steps_text nodes n q → p ≡ q
steps-tell nodes named n [] [] h i e = refl
steps-tell nodes named n [] (d ∷ q) h i e = absurd (leaf-ends (node_at nodes n) d h.1 i.0)
steps-tell nodes named n (c ∷ p) [] h i e = absurd (leaf-ends (node_at nodes n) c i.1 h.0)
steps-tell nodes named n (c ∷ p) (d ∷ q) h i e =
    let below = child_of (node_at nodes n) in
    let step = step-tells (node_at nodes n) (named n) c d h.0 i.0 (steps_text nodes (below c) p) (steps_text nodes (below d) q) (steps-stop nodes (below c) p h.1) (steps-stop nodes (below d) q i.1) e in
    let there : IsPath nodes (below c) q = subst (λ k. IsPath nodes (below k) q) (sym step.0) i.1 in
    let same : steps_text nodes (below c) p ≡ steps_text nodes (below c) q = step.1 ∙ ap (λ k. steps_text nodes (below k) q) (sym step.0) in
    ap (λ k. k ∷ p) step.0 ∙ ap (λ path. d ∷ path) (steps-tell nodes named (below c) p q h.1 there same)

front-goes : (xs ys zs : List ℕ) → xs ++ ys ≡ xs ++ zs → ys ≡ zs
front-goes [] ys zs e = e
front-goes (x ∷ xs) ys zs e = front-goes xs ys zs (ap (drop 1) e)

-- two paths of one text are one
pub texts-tell : (system : List ℕ) (nodes : List Node) → ((n : ℕ) → AreNamed (node_at nodes n)) → (root : ℕ) (p q : List ℕ) → IsPath nodes root p → IsPath nodes root q → path_text system nodes root p ≡ path_text system nodes root q → p ≡ q
texts-tell system nodes named root p q h i e = steps-tell nodes named root p q h i (front-goes system (steps_text nodes root p) (steps_text nodes root q) e)

-- none of the four blanks is in a name
no-blank : (b : ℕ) → is_in_name b ≡ true → is_blank b ≡ false
no-blank b h = by_tests (eqb_tells b 32) (eqb_tells b 9) (eqb_tells b 10) (eqb_tells b 13)
  where
    Differs : ℕ → Type 0
    Differs k = ((nat_eq b k ≡ true) × (b ≡ k)) ⊎ ((nat_eq b k ≡ false) × (b ≡ k → ⊥))

    never : (k : ℕ) → is_in_name k ≡ false → b ≡ k → ⊥
    never k none e = true≢false (sym h ∙ ap is_in_name e ∙ none)

    by_tests : Differs 32 → Differs 9 → Differs 10 → Differs 13 → is_blank b ≡ false
    by_tests (inl x) y z w = absurd (never 32 refl x.1)
    by_tests (inr x) (inl y) z w = absurd (never 9 refl y.1)
    by_tests (inr x) (inr y) (inl z) w = absurd (never 10 refl z.1)
    by_tests (inr x) (inr y) (inr z) (inl w) = absurd (never 13 refl w.1)
    by_tests (inr x) (inr y) (inr z) (inr w) = ap (λ c. c || (nat_eq b 9 || (nat_eq b 10 || nat_eq b 13))) x.0 ∙ ap (λ c. c || (nat_eq b 10 || nat_eq b 13)) y.0 ∙ ap (λ c. c || nat_eq b 13) z.0 ∙ w.0

no-blanks : (bs : List ℕ) → each is_in_name bs ≡ true → list_any is_blank bs ≡ false
no-blanks [] h = refl
no-blanks (b ∷ bs) h =
    let two = both_true (is_in_name b) (each is_in_name bs) h in
    ap (λ c. c || list_any is_blank bs) (no-blank b two.0) ∙ no-blanks bs two.1

both-unbroken : (xs ys : List ℕ) → list_any is_blank xs ≡ false → list_any is_blank ys ≡ false → list_any is_blank (xs ++ ys) ≡ false
both-unbroken xs ys h i = list_any-append is_blank xs ys ∙ ap (λ c. c || list_any is_blank ys) h ∙ i

step-unbroken : (node : Node) → AreNamed node → (c : ℕ) → HasChild node c → list_any is_blank (step_text node c) ≡ false
step-unbroken (Leaf _) named c h = refl
step-unbroken (Join children shares) named c h = no-blanks (name_of children c) (child-name children named.names c h)
step-unbroken (Rep node times shares) named c h = both-unbroken (decimal c) (93 ∷ []) (no-blanks (decimal c) (decimal-in-name c h)) refl

steps-unbroken : (nodes : List Node) → ((n : ℕ) → AreNamed (node_at nodes n)) → (n : ℕ) (path : List ℕ) → IsPath nodes n path → list_any is_blank (steps_text nodes n path) ≡ false
steps-unbroken nodes named n [] h = refl
steps-unbroken nodes named n (c ∷ path) h = both-unbroken (step_text (node_at nodes n) c) (steps_text nodes (child_of (node_at nodes n) c) path) (step-unbroken (node_at nodes n) (named n) c h.0) (steps-unbroken nodes named (child_of (node_at nodes n) c) path h.1)

pub texts-unbroken : (system : List ℕ) → IsTrue (is_name system) → (nodes : List Node) → ((n : ℕ) → AreNamed (node_at nodes n)) → (root : ℕ) (path : List ℕ) → IsPath nodes root path → list_any is_blank (path_text system nodes root path) ≡ false
texts-unbroken system named nodes all root path h = both-unbroken system (steps_text nodes root path) (no-blanks system (name-in-name system named)) (steps-unbroken nodes all root path h)
