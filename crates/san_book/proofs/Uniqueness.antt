-- Versions in order are a function of their look-ups, and lines of the chains.
use Rattle.std.proofs.Common.{ℕ, suc, ◌<◌, ◌≡◌, ◌⊎◌, ◌∙◌, ◌&&◌, inl, inr, ap, sym, refl, subst, List, [], ◌∷◌, length, Some, None, true, nat_eq, nat_lt, arith}
use Rattle.std.specs.Prelude.{slice_index}
use Rattle.std.proofs.lemmas.Bool.Decides.{nat_tests}
use Rattle.std.proofs.lemmas.Bool.{eq-eqb}
use Rattle.san_line.specs.declared.version.Version.{Version}
use Rattle.san_line.specs.Lines.{before, find, first_by, found_by, is_key}
use Rattle.san_line.specs.Ordered.{AllAfter}
use Rattle.san_line.proofs.Ordered.{before_pass, by_bool, key_is}
use Rattle.san_book.specs.Machines.{Machine}
use Rattle.san_book.specs.Lines.{Line, line_of}
use Rattle.san_book.specs.Chains.{Chain, chain_of, written}
use Rattle.san_book.specs.Laws.{LinesAreOne, OrderedIsOne}

not_itself : (a b c : ℕ) → first_by a a (first_by b b (nat_lt c c)) ≡ true → ⊥
not_itself a b c h = grind (arith, nat_tests)

never_both : (v w : Version) → before v w ≡ true → before w v ≡ true → ⊥
never_both v w h k = not_itself v.time.0 v.leaf.0 v.pos (before_pass v w v h k)

own_key : (v : Version) → is_key v.leaf.0 v.pos v ≡ true
own_key v = ap (λ b. b && nat_eq v.pos v.pos) (eq-eqb v.leaf.0 v.leaf.0 refl) ∙ eq-eqb v.pos v.pos refl

found_itself : (v : Version) (xs : List Version) → find v.leaf.0 v.pos (v ∷ xs) ≡ Some v
found_itself v xs = ap (λ b. found_by b v (find v.leaf.0 v.pos xs)) (own_key v)

some_is : (v w : Version) → Some v ≡ Some w → v ≡ w
some_is v w e = cc

-- what is found in a list comes after what all of it comes after
after_found : (u w : Version) (leaf pos : ℕ) (xs : List Version) → AllAfter u xs → find leaf pos xs ≡ Some w → before u w ≡ true
after_found u w leaf pos [] a e = absurd (cc)
after_found u w leaf pos (x ∷ xs) a e = by_bool (λ b. found_by b x (find leaf pos xs) ≡ Some w → before u w ≡ true) (is_key leaf pos x)
    (λ _ e. subst (λ (y : Version). before u y ≡ true) (some_is x w e) a.0) (λ _ e. after_found u w leaf pos xs a.1 e) e

-- a version that is found in a list is its first, or comes after that
first_or_after : (x y : Version) (leaf pos : ℕ) (xs : List Version) → AllAfter x xs → find leaf pos (x ∷ xs) ≡ Some y → (x ≡ y) ⊎ (before x y ≡ true)
first_or_after x y leaf pos xs a e = by_bool (λ b. found_by b x (find leaf pos xs) ≡ Some y → (x ≡ y) ⊎ (before x y ≡ true)) (is_key leaf pos x)
    (λ _ e. inl (some_is x y e)) (λ _ e. inr (after_found x y leaf pos xs a e)) e

same_first : (x y : Version) (xs ys : List Version) → AllAfter x xs → AllAfter y ys → ((leaf pos : ℕ) → find leaf pos (x ∷ xs) ≡ find leaf pos (y ∷ ys)) → x ≡ y
same_first x y xs ys a b f = by_both
    (first_or_after x y y.leaf.0 y.pos xs a (f y.leaf.0 y.pos ∙ found_itself y ys))
    (first_or_after y x x.leaf.0 x.pos ys b (sym (f x.leaf.0 x.pos) ∙ found_itself x xs))
  where
    by_both : (x ≡ y) ⊎ (before x y ≡ true) → (y ≡ x) ⊎ (before y x ≡ true) → x ≡ y
    by_both (inl e) k = e
    by_both (inr h) (inl e) = sym e
    by_both (inr h) (inr k) = absurd (never_both x y h k)

none_here : (leaf pos : ℕ) (x : Version) (xs : List Version) → find x.leaf.0 x.pos xs ≡ None → is_key leaf pos x ≡ true → find leaf pos xs ≡ None
none_here leaf pos x xs n h = let k = key_is leaf pos x h in
    sym (ap (λ (l : ℕ). find l x.pos xs) k.0 ∙ ap (λ (p : ℕ). find leaf p xs) k.1) ∙ n

same_rest : (x : Version) (xs ys : List Version) (leaf pos : ℕ) → find x.leaf.0 x.pos xs ≡ None → find x.leaf.0 x.pos ys ≡ None → find leaf pos (x ∷ xs) ≡ find leaf pos (x ∷ ys) → find leaf pos xs ≡ find leaf pos ys
same_rest x xs ys leaf pos n k e = by_bool (λ b. is_key leaf pos x ≡ b → found_by b x (find leaf pos xs) ≡ found_by b x (find leaf pos ys) → find leaf pos xs ≡ find leaf pos ys) (is_key leaf pos x)
    (λ _ h _. none_here leaf pos x xs n h ∙ sym (none_here leaf pos x ys k h)) (λ _ h e. e) refl e

pub ordered_is_one : (xs ys : List Version) → OrderedIsOne xs ys
ordered_is_one [] [] a b f = refl
ordered_is_one [] (y ∷ ys) a b f = absurd (none_some y (f y.leaf.0 y.pos ∙ found_itself y ys))
  where
    none_some : (v : Version) → None ≡ Some v → ⊥
    none_some v e = cc
ordered_is_one (x ∷ xs) [] a b f = absurd (none_some x (sym (f x.leaf.0 x.pos) ∙ found_itself x xs))
  where
    none_some : (v : Version) → None ≡ Some v → ⊥
    none_some v e = cc
ordered_is_one (x ∷ xs) (y ∷ ys) a b f =
    let e : x ≡ y = same_first x y xs ys a.0 b.0 f in
    ap (λ (v : Version). v ∷ xs) e ∙ ap (λ (vs : List Version). y ∷ vs)
    (ordered_is_one xs ys a.2 b.2 (λ leaf pos. same_rest y xs ys leaf pos (subst (λ (v : Version). find v.leaf.0 v.pos xs ≡ None) e a.1) b.1
    (subst (λ (v : Version). find leaf pos (v ∷ xs) ≡ find leaf pos (y ∷ ys)) e (f leaf pos))))

-- lines place by place
line_is : (a b : Line) → a.committed ≡ b.committed → a.versions ≡ b.versions → a ≡ b
line_is a b e k = ap (λ c. record { committed = c; versions = a.versions }) e ∙ ap (λ vs. record { committed = b.committed; versions = vs }) k

lines_same : (xs ys : List Line) → length xs ≡ length ys → ((q : ℕ) → q < length xs → line_of xs q ≡ line_of ys q) → xs ≡ ys
lines_same [] [] e f = refl
lines_same [] (y ∷ ys) e f = absurd (omega (arith, e))
lines_same (x ∷ xs) [] e f = absurd (omega (arith, e))
lines_same (x ∷ xs) (y ∷ ys) e f = ap (λ (l : Line). l ∷ xs) (f 0 (omega arith)) ∙ ap (λ (ls : List Line). y ∷ ls) (lines_same xs ys (omega (arith, e)) (λ q h. f (suc q) (omega (arith, h))))

pub lines_are_one : {H S P : Type 0} (m : Machine H S P) → LinesAreOne m
lines_are_one {H} {S} {P} m c d a b held chains =
    let long : length c.lines ≡ length d.lines = a.lines ∙ sym b.lines in
    lines_same c.lines d.lines long (λ q h.
    let k : q < length d.lines = subst (λ (n : ℕ). q < n) long h in
    line_is (line_of c.lines q) (line_of d.lines q)
    (a.committed q h ∙ (ap (λ x. slice_index (m.shared x) q) held ∙ sym (b.committed q k)))
    (ordered_is_one (line_of c.lines q).versions (line_of d.lines q).versions (a.exact.ordered q) (b.exact.ordered q)
    (λ leaf pos. a.exact.versions q leaf pos h ∙ (ap (λ (cs : List (Chain P)). written m.reading leaf q pos (chain_of cs leaf)) chains ∙ sym (b.exact.versions q leaf pos k)))))
