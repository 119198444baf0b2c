-- A table of the nodes' shares, entry by entry.
use Rattle.std.proofs.Common.{ℕ, suc, ◌+◌, ◌≤◌, ◌<◌, ◌≡◌, ◌∙◌, ◌⊎◌, inl, inr, ap, sym, refl, arith, Bool, true, false, cond, not, ◌&&◌, ◌||◌, nat_eq, nat_lt, List, [], ◌∷◌, ◌++◌, length, Option, Some, None, is_some, take, get_or, true≢false}
use Rattle.std.specs.Prelude.{position}
use Rattle.std.specs.List.{list_any, position_or_len}
use Rattle.std.proofs.Math.Seq.{take-suc}
use Rattle.std.proofs.lemmas.Bool.{le-ltb, lt-ltb}
use Rattle.std.proofs.lemmas.Bool.Decides.{eqb_tells, leb_tells}
use Rattle.std.proofs.lemmas.List.{length-append, length-take-le}
use Rattle.std.proofs.lemmas.List.Folds.{list_any-append, position_or_len_push}
use Rattle.std.proofs.lemmas.List.Sums.{prefix_len-le-length}
use Rattle.san_base.proofs.Bools.{both_true, or_false}
use Rattle.san_base.proofs.NumberTests.{same_number}
use Rattle.san_tree.specs.declared.node.Node.{Node}
use Rattle.san_tree.specs.declared.node.Node.TheVariants.{Leaf, Join, Rep}
use Rattle.san_tree.specs.Places.{node_at, shared_as}
use Rattle.san_tree.specs.inner.Shared.{Knows, SharePart, child_key, known_as, or_else, same_part}

or_else_none : (a : Option ℕ) → or_else a None ≡ a
or_else_none None = refl
or_else_none (Some v) = refl

-- what a node shares is what the table knows of it
pub known_shared : (node : Node) (c p : ℕ) → known_as node (child_key node c) p ≡ shared_as node c p
known_shared (Leaf _) c p = refl
known_shared (Join _ shares) c p = refl
known_shared (Rep _ _ shares) c p = refl

same_is : (a b : SharePart) → same_part a b ≡ true → a ≡ b
same_is (m, c, p) (n, d, q) h =
    let one = both_true (nat_eq m n && nat_eq c d) (nat_eq p q) h in
    let two = both_true (nat_eq m n) (nat_eq c d) one.0 in
    ap (λ (x : ℕ). (x, c, p)) (same_number m n two.0) ∙ ap (λ (x : ℕ). (n, x, p)) (same_number c d two.1) ∙ ap (λ (x : ℕ). (n, d, x)) (same_number p q one.1)

-- a part that isn't there is noted
pub noted : (found after : SharePart → Option ℕ) (part : SharePart) (v : ℕ) → found part ≡ None → ((q : SharePart) → after q ≡ cond (same_part part q) (Some v) (found q)) → (q : SharePart)
    → after q ≡ or_else (found q) (cond (same_part part q) (Some v) None)
noted found after part v none new q = new q ∙ by_test (same_part part q) refl
  where
    by_test : (b : Bool) → same_part part q ≡ b → cond b (Some v) (found q) ≡ or_else (found q) (cond b (Some v) None)
    by_test true is = sym (ap (λ (o : Option ℕ). or_else o (Some v)) (ap found (sym (same_is part q is)) ∙ none))
    by_test false is = sym (or_else_none (found q))

-- a part that is there stays
kept : (found : SharePart → Option ℕ) (part : SharePart) (v w : ℕ) → found part ≡ Some w → (q : SharePart) → found q ≡ or_else (found q) (cond (same_part part q) (Some v) None)
kept found part v w there q = by_test (same_part part q) refl
  where
    by_test : (b : Bool) → same_part part q ≡ b → found q ≡ or_else (found q) (cond b (Some v) None)
    by_test true is = let at : found q ≡ Some w = ap found (sym (same_is part q is)) ∙ there in at ∙ sym (ap (λ (o : Option ℕ). or_else o (Some v)) at)
    by_test false is = sym (or_else_none (found q))

either_part : (o : Option ℕ) (a x y : Bool) (v : ℕ) → or_else (or_else o (cond (a && x) (Some v) None)) (cond (a && y) (Some v) None) ≡ or_else o (cond (a && (x || y)) (Some v) None)
either_part (Some u) a x y v = refl
either_part None false x y v = refl
either_part None true true y v = refl
either_part None true false y v = refl

and_both_of : (a b x : Bool) → (a && (b && x)) ≡ ((a && b) && x)
and_both_of true b x = refl
and_both_of false b x = refl

-- one part more of a share
pub part_more : (found before after : SharePart → Option ℕ) (node v : ℕ) (parts : List (ℕ × ℕ)) (i : ℕ) (part : ℕ × ℕ) → i < length parts → part ≡ get_or parts i part
    → ((k c p : ℕ) → before (k, c, p) ≡ or_else (found (k, c, p)) (cond (nat_eq node k && list_any (λ x. nat_eq x.0 c && nat_eq x.1 p) (take i parts)) (Some v) None))
    → ((q : SharePart) → after q ≡ or_else (before q) (cond (same_part (node, part.0, part.1) q) (Some v) None)) → (k c p : ℕ)
    → after (k, c, p) ≡ or_else (found (k, c, p)) (cond (nat_eq node k && list_any (λ x. nat_eq x.0 c && nat_eq x.1 p) (take (i + 1) parts)) (Some v) None)
part_more found before after node v parts i part lt is was new k c p =
    let f : ℕ × ℕ → Bool = λ x. nat_eq x.0 c && nat_eq x.1 p in
    let one : take (i + 1) parts ≡ take i parts ++ part ∷ [] = let n : i + 1 ≡ suc i = omega arith in ap (λ m. take m parts) n ∙ take-suc parts i part lt ∙ ap (λ x. take i parts ++ x ∷ []) (sym is) in
    let any : list_any f (take (i + 1) parts) ≡ (list_any f (take i parts) || f part) = ap (list_any f) one ∙ list_any-append f (take i parts) (part ∷ []) ∙ ap (λ b. list_any f (take i parts) || b) (or_false (f part)) in
    new (k, c, p)
    ∙ ap (λ b. or_else (before (k, c, p)) (cond b (Some v) None)) (sym (and_both_of (nat_eq node k) (nat_eq part.0 c) (nat_eq part.1 p)))
    ∙ ap (λ (o : Option ℕ). or_else o (cond (nat_eq node k && f part) (Some v) None)) (was k c p)
    ∙ either_part (found (k, c, p)) (nat_eq node k) (list_any f (take i parts)) (f part) v
    ∙ ap (λ b. or_else (found (k, c, p)) (cond (nat_eq node k && b) (Some v) None)) (sym any)

-- the first that passes, with one more at the end
position_push : {A : Type 0} (f : A → Bool) (xs : List A) (y : A) → position f (xs ++ y ∷ []) ≡ or_else (position f xs) (cond (f y) (Some (length xs)) None)
position_push f xs y = by_number (position_or_len f xs) (length xs) (position_or_len f (xs ++ y ∷ [])) (length (xs ++ y ∷ [])) (f y) (nat_eq (position_or_len f xs) (length xs)) (length-append xs (y ∷ [])) (prefix_len-le-length (λ x. not (f x)) xs) refl (position_or_len_push f xs y)
  where
    by_number : (at long now more : ℕ) (b e : Bool) → more ≡ long + 1 → at ≤ long → nat_eq at long ≡ e → now ≡ cond e (long + cond b 0 1) at
        → cond (nat_lt now more) (Some now) None ≡ or_else (cond (nat_lt at long) (Some at) None) (cond b (Some long) None)
    by_number at long now more true true is low same last =
        let end : at ≡ long = same_number at long same in
        let here : now ≡ long = omega (arith, last) in
        ap (λ b. cond b (Some now) None) (lt-ltb now more (omega (arith, here, is))) ∙ ap Some here ∙ sym (ap (λ b. or_else (cond b (Some at) None) (Some long)) (le-ltb at long (omega (arith, end))))
    by_number at long now more false true is low same last =
        let end : at ≡ long = same_number at long same in
        ap (λ b. cond b (Some now) None) (le-ltb now more (omega (arith, last, is))) ∙ sym (ap (λ b. or_else (cond b (Some at) None) None) (le-ltb at long (omega (arith, end))))
    by_number at long now more b false is low differ last =
        let early : at < long = before (eqb_tells at long) in
        ap (λ b. cond b (Some now) None) (lt-ltb now more (omega (arith, last, is, early))) ∙ ap Some last ∙ sym (ap (λ t. or_else (cond t (Some at) None) (cond b (Some long) None)) (lt-ltb at long early))
      where
        before : ((nat_eq at long ≡ true) × (at ≡ long)) ⊎ ((nat_eq at long ≡ false) × (at ≡ long → ⊥)) → at < long
        before (inl e) = absurd (true≢false (sym e.0 ∙ differ))
        before (inr d) = omega (arith, low, d.1)

either_place : (o m : Option ℕ) (a x : Bool) (n : Option ℕ) → or_else (or_else o (cond a m None)) (cond (a && x) n None) ≡ or_else o (cond a (or_else m (cond x n None)) None)
either_place (Some u) m a x n = refl
either_place None m true x n = refl
either_place None m false x n = refl

-- one item more, at which the parts begin to be known
pub item_more : {A : Type 0} (found before after : SharePart → Option ℕ) (test : ℕ → ℕ → A → Bool) (here : ℕ → ℕ → Bool) (items : List A) (i : ℕ) (item d : A) → i < length items → item ≡ get_or items i d
    → ((k c p : ℕ) → before (k, c, p) ≡ or_else (found (k, c, p)) (cond (here k c) (position (test c p) (take i items)) None))
    → ((k c p : ℕ) → after (k, c, p) ≡ or_else (before (k, c, p)) (cond (here k c && test c p item) (Some i) None)) → (k c p : ℕ)
    → after (k, c, p) ≡ or_else (found (k, c, p)) (cond (here k c) (position (test c p) (take (i + 1) items)) None)
item_more found before after test here items i item d lt is was new k c p =
    let one : take (i + 1) items ≡ take i items ++ item ∷ [] = let n : i + 1 ≡ suc i = omega arith in ap (λ m. take m items) n ∙ take-suc items i d lt ∙ ap (λ x. take i items ++ x ∷ []) (sym is) in
    let long : length (take i items) ≡ i = length-take-le i items (omega (arith, lt)) in
    let first : position (test c p) (take (i + 1) items) ≡ or_else (position (test c p) (take i items)) (cond (test c p item) (Some i) None) =
    ap (position (test c p)) one ∙ position_push (test c p) (take i items) item ∙ ap (λ n. or_else (position (test c p) (take i items)) (cond (test c p item) (Some n) None)) long in
    new k c p
    ∙ ap (λ (o : Option ℕ). or_else o (cond (here k c && test c p item) (Some i) None)) (was k c p)
    ∙ either_place (found (k, c, p)) (position (test c p) (take i items)) (here k c) (test c p item) (Some i)
    ∙ ap (λ o. or_else (found (k, c, p)) (cond (here k c) o None)) (sym first)

pub nothing_yet : (o : Option ℕ) (b : Bool) → o ≡ or_else o (cond b None None)
nothing_yet o true = sym (or_else_none o)
nothing_yet o false = sym (or_else_none o)

-- one node more
pub knows_more : (nodes : List Node) (i : ℕ) (node : Node) (before after : SharePart → Option ℕ) → node ≡ node_at nodes i → Knows nodes i before
    → ((k c p : ℕ) → after (k, c, p) ≡ or_else (before (k, c, p)) (cond (nat_eq i k) (known_as node c p) None)) → Knows nodes (i + 1) after
knows_more nodes i node before after is known new k c p = new k c p ∙ ap (λ o. or_else o (cond (nat_eq i k) (known_as node c p) None)) (known k c p) ∙ by_tests (leb_tells (suc k) i) (eqb_tells i k)
  where
    there : Option ℕ
    there = known_as (node_at nodes k) c p

    early : (b e n : Bool) → b ≡ true → e ≡ false → n ≡ true → or_else (cond b there None) (cond e (known_as node c p) None) ≡ cond n there None
    early b e n x y z = ap (λ b. or_else (cond b there None) (cond e (known_as node c p) None)) x ∙ ap (λ e. or_else there (cond e (known_as node c p) None)) y ∙ or_else_none there ∙ ap (λ n. cond n there None) (sym z)

    now : (b e n : Bool) → b ≡ false → e ≡ true → n ≡ true → known_as node c p ≡ there → or_else (cond b there None) (cond e (known_as node c p) None) ≡ cond n there None
    now b e n x y z w = ap (λ b. or_else (cond b there None) (cond e (known_as node c p) None)) x ∙ ap (λ e. cond e (known_as node c p) None) y ∙ w ∙ ap (λ n. cond n there None) (sym z)

    late : (b e n : Bool) → b ≡ false → e ≡ false → n ≡ false → or_else (cond b there None) (cond e (known_as node c p) None) ≡ cond n there None
    late b e n x y z = ap (λ b. or_else (cond b there None) (cond e (known_as node c p) None)) x ∙ ap (λ e. cond e (known_as node c p) None) y ∙ ap (λ n. cond n there None) (sym z)

    by_tests : ((nat_lt k i ≡ true) × (suc k ≤ i)) ⊎ ((nat_lt k i ≡ false) × (i < suc k)) → ((nat_eq i k ≡ true) × (i ≡ k)) ⊎ ((nat_eq i k ≡ false) × (i ≡ k → ⊥))
        → or_else (cond (nat_lt k i) there None) (cond (nat_eq i k) (known_as node c p) None) ≡ cond (nat_lt k (i + 1)) there None
    by_tests (inl a) (inl e) = absurd (omega (arith, a.1, e.1))
    by_tests (inl a) (inr e) = early (nat_lt k i) (nat_eq i k) (nat_lt k (i + 1)) a.0 e.0 (lt-ltb k (i + 1) (omega (arith, a.1)))
    by_tests (inr a) (inl e) = now (nat_lt k i) (nat_eq i k) (nat_lt k (i + 1)) a.0 e.0 (lt-ltb k (i + 1) (omega (arith, e.1))) (ap (λ n. known_as n c p) is ∙ ap (λ m. known_as (node_at nodes m) c p) e.1)
    by_tests (inr a) (inr e) = late (nat_lt k i) (nat_eq i k) (nat_lt k (i + 1)) a.0 e.0 (le-ltb k (i + 1) (omega (arith, a.1, e.1)))

pub none_there : (o : Option ℕ) → is_some o ≡ false → o ≡ None
none_there None is = refl
none_there (Some v) is = absurd (true≢false is)

pub some_there : (found : SharePart → Option ℕ) (part : SharePart) (v : ℕ) → is_some (found part) ≡ true → (q : SharePart) → found q ≡ or_else (found q) (cond (same_part part q) (Some v) None)
some_there found part v is = by_look (found part) refl is
  where
    by_look : (o : Option ℕ) → found part ≡ o → is_some o ≡ true → (q : SharePart) → found q ≡ or_else (found q) (cond (same_part part q) (Some v) None)
    by_look None e is = absurd (true≢false (sym is))
    by_look (Some w) e is = kept found part v w e

-- what a table of all nodes finds for a child's place
pub at_part : (nodes : List Node) (n : ℕ) (node : Node) (c p key : ℕ) (found : SharePart → Option ℕ) → key ≡ child_key node c → n < length nodes → node ≡ node_at nodes n → Knows nodes (length nodes) found
    → found (n, key, p) ≡ shared_as (node_at nodes n) c p
at_part nodes n node c p key found is within at known =
    known n key p ∙ ap (λ b. cond b (known_as (node_at nodes n) key p) None) (lt-ltb n (length nodes) within)
    ∙ ap (λ x. known_as x key p) (sym at) ∙ ap (λ k. known_as node k p) is ∙ known_shared node c p ∙ ap (λ x. shared_as x c p) at
