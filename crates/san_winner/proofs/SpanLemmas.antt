-- The least of a stretch of nodes, and of the stretch below it.
use Rattle.std.proofs.Common.{ℕ, zero, suc, ◌+◌, ◌-◌, ◌^◌, ◌/◌, ◌%◌, ◌<◌, ◌≤◌, ◌≡◌, ◌≢◌, ◌∙◌, ap, sym, refl, List, [], ◌∷◌, length, Option, Some, None, Bool, true, false, nat_lt, arith, slice_index_or}
use Rattle.std.proofs.lemmas.Bool.{ltb-true, ltb-false}
use Rattle.san_winner.specs.Least.{Won, sooner, leaf, least_from, span}

pub sooner_none : (a : Won) → sooner a None ≡ a
sooner_none None = refl
sooner_none (Some a) = refl

assoc_by : (a b c : ℕ × ℕ) (p q r : Bool) → nat_lt b.0 a.0 ≡ p → nat_lt c.0 b.0 ≡ q → nat_lt c.0 a.0 ≡ r → sooner (sooner (Some a) (Some b)) (Some c) ≡ sooner (Some a) (sooner (Some b) (Some c))
assoc_by a b c true true true p q r = rw (p, q, r) refl
assoc_by a b c true true false p q r = let x = ltb-true b.0 a.0 p in let y = ltb-true c.0 b.0 q in let z = ltb-false c.0 a.0 r in absurd (omega (arith, x, y, z))
assoc_by a b c true false r p q t = rw (p, q, p) refl
assoc_by a b c false true r p q t = rw (p, q) refl
assoc_by a b c false false true p q r = let x = ltb-false b.0 a.0 p in let y = ltb-false c.0 b.0 q in let z = ltb-true c.0 a.0 r in absurd (omega (arith, x, y, z))
assoc_by a b c false false false p q r = rw (p, q, p, r) refl

pub sooner_assoc : (a b c : Won) → sooner (sooner a b) c ≡ sooner a (sooner b c)
sooner_assoc None b c = refl
sooner_assoc (Some a) None c = refl
sooner_assoc (Some a) (Some b) None = sooner_none (sooner (Some a) (Some b))
sooner_assoc (Some a) (Some b) (Some c) = assoc_by a b c (nat_lt b.0 a.0) (nat_lt c.0 b.0) (nat_lt c.0 a.0) refl refl refl

-- a stretch by its last node
pub span_last : (f : ℕ → Won) (i n : ℕ) → span f i (suc n) ≡ sooner (span f i n) (f (i + n))
unfolding span
span_last f i zero = let e : i + 0 ≡ i = omega arith in rw e (sooner_none (f i))
span_last f i (suc n) = let e : suc i + n ≡ i + suc n = omega arith in
    ap (sooner (f i)) (span_last f (suc i) n ∙ ap (λ k. sooner (span f (suc i) n) (f k)) e) ∙ sym (sooner_assoc (f i) (span f (suc i) n) (f (i + suc n)))

pub span_add : (f : ℕ → Won) (i n m : ℕ) → span f i (n + m) ≡ sooner (span f i n) (span f (i + n) m)
unfolding span
span_add f i zero m = let e : i + 0 ≡ i = omega arith in rw e (let d : 0 + m ≡ m = omega arith in ap (span f i) d)
span_add f i (suc n) m = let e : suc i + n ≡ i + suc n = omega arith in let d : suc n + m ≡ suc (n + m) = omega arith in
    ap (span f i) d ∙ ap (sooner (f i)) (span_add f (suc i) n m ∙ ap (λ k. sooner (span f (suc i) n) (span f k m)) e) ∙ sym (sooner_assoc (f i) (span f (suc i) n) (span f (i + suc n) m))

-- a level has the winners of the one below
abbrev pub Wins : (ℕ → Won) → ℕ → Type 0
Wins f v = f v ≡ sooner (f (v + v)) (f (v + v + 1))

pub pairs : (f : ℕ → Won) (l n : ℕ) → ((v : ℕ) → l ≤ v → v < l + n → Wins f v) → span f l n ≡ span f (l + l) (n + n)
unfolding span
pairs f l zero h = refl
pairs f l (suc n) h =
    let d : suc n + suc n ≡ suc (suc (n + n)) = omega arith in
    let e : suc l + suc l ≡ suc (suc (l + l)) = omega arith in
    let s : l + l + 1 ≡ suc (l + l) = omega arith in
    let a = h l (omega arith) (omega arith) in
    let b = pairs f (suc l) n (λ v p q. h v (omega (arith, p)) (omega (arith, q))) in
    ap (λ x. sooner x (span f (suc l) n)) (a ∙ ap (λ k. sooner (f (l + l)) (f k)) s)
    ∙ sooner_assoc (f (l + l)) (f (suc (l + l))) (span f (suc l) n)
    ∙ ap (λ x. sooner (f (l + l)) (sooner (f (suc (l + l))) x)) (b ∙ ap (λ k. span f k (n + n)) e)
    ∙ sym (ap (span f (l + l)) d)

pub double : (h : ℕ) → 2 ^ suc h ≡ 2 ^ h + 2 ^ h
double h = grind arith

pub power : (h : ℕ) → 0 < 2 ^ h
power zero = omega arith
power (suc h) = omega (arith, power h, double h)

-- the root is the least of the lowest level
pub root : (f : ℕ → Won) (h : ℕ) → ((v : ℕ) → 0 < v → v < 2 ^ h → Wins f v) → f 1 ≡ span f (2 ^ h) (2 ^ h)
unfolding span
root f zero t = sym (sooner_none (f 1))
root f (suc h) t =
    let d = double h in
    let o = power h in
    root f h (λ v p l. t v p (omega (arith, l, d, o))) ∙ pairs f (2 ^ h) (2 ^ h) (λ v p l. t v (omega (arith, p, o)) (omega (arith, l, d))) ∙ sym (ap (λ k. span f k k) d)

-- a stretch of nodes that have the keys of a list
pub span_list : (f : ℕ → Won) (i j : ℕ) (xs : List (Option ℕ)) → ((k : ℕ) → k < length xs → f (i + k) ≡ leaf (j + k) (slice_index_or xs k None)) → span f i (length xs) ≡ least_from j xs
unfolding span least_from
span_list f i j [] h = refl
span_list f i j (x ∷ xs) h =
    let a : f (i + 0) ≡ leaf (j + 0) x = h 0 (omega arith) in
    let p : i + 0 ≡ i = omega arith in let q : j + 0 ≡ j = omega arith in
    let b : f i ≡ leaf j x = sym (ap f p) ∙ a ∙ ap (λ k. leaf k x) q in
    let c = span_list f (suc i) (suc j) xs (λ k l. let r : i + suc k ≡ suc i + k = omega arith in let s : j + suc k ≡ suc j + k = omega arith in
    sym (ap f r) ∙ h (suc k) (omega (arith, l)) ∙ ap (λ n. leaf n (slice_index_or xs k None)) s) in
    ap (λ y. sooner y (span f (suc i) (length xs))) b ∙ ap (sooner (leaf j x)) c

-- nothing among nodes without keys
pub span_none : (f : ℕ → Won) (i n : ℕ) → ((k : ℕ) → k < n → f (i + k) ≡ None) → span f i n ≡ None
unfolding span
span_none f i zero h = refl
span_none f i (suc n) h =
    let p : i + 0 ≡ i = omega arith in
    ap (λ y. sooner y (span f (suc i) n)) (sym (ap f p) ∙ h 0 (omega arith)) ∙ span_none f (suc i) n (λ k l. let r : i + suc k ≡ suc i + k = omega arith in sym (ap f r) ∙ h (suc k) (omega (arith, l)))

-- one match more at the left end, and at the right end
pub at_left : (f : ℕ → Won) (x y : Won) (l h : ℕ) → l < h → sooner (sooner x (f l)) (sooner (span f (l + 1) (h - (l + 1))) y) ≡ sooner x (sooner (span f l (h - l)) y)
unfolding span
at_left f x y l h b =
    let e : h - l ≡ suc (h - (l + 1)) = omega (arith, b) in
    let g : l + 1 ≡ suc l = omega arith in
    let m : ℕ = h - (l + 1) in
    sooner_assoc x (f l) (sooner (span f (l + 1) m) y)
    ∙ ap (sooner x) (sym (sooner_assoc (f l) (span f (l + 1) m) y) ∙ ap (λ k. sooner (sooner (f l) (span f k m)) y) g ∙ ap (λ k. sooner (span f l k) y) (sym e))

pub at_right : (f : ℕ → Won) (x y : Won) (l h : ℕ) → l < h → sooner x (sooner (span f l ((h - 1) - l)) (sooner (f (h - 1)) y)) ≡ sooner x (sooner (span f l (h - l)) y)
at_right f x y l h b =
    let m : ℕ = (h - 1) - l in
    let e : h - l ≡ suc m = omega (arith, b) in
    let g : l + m ≡ h - 1 = omega (arith, b) in
    ap (sooner x) (sym (sooner_assoc (span f l m) (f (h - 1)) y) ∙ ap (λ k. sooner (sooner (span f l m) (f k)) y) (sym g) ∙ ap (λ z. sooner z y) (sym (span_last f l m)) ∙ ap (λ k. sooner (span f l k) y) (sym e))

pub at_half : (f : ℕ → Won) (x y : Won) (l h size : ℕ) → l % 2 ≡ 0 → h % 2 ≡ 0 → 0 < l → l ≤ h → h ≤ size + size → ((v : ℕ) → 0 < v → v < size → Wins f v) → sooner x (sooner (span f (l / 2) (h / 2 - l / 2)) y) ≡ sooner x (sooner (span f l (h - l)) y)
at_half f x y l h size p q o b s t =
    let n : ℕ = h / 2 - l / 2 in
    let e : l / 2 + l / 2 ≡ l = omega (arith, p) in
    let g : n + n ≡ h - l = omega (arith, p, q, b) in
    ap (λ z. sooner x (sooner z y)) (pairs f (l / 2) n (λ v a c. t v (omega (arith, a, p, o)) (omega (arith, c, p, q, b, s))) ∙ ap (λ k. span f k (n + n)) e ∙ ap (span f l) g)

pub record LeftEnd (f : ℕ → Won) (x x1 : Won) (l l1 h : ℕ) : Type 0 where
  pub even : l1 % 2 ≡ 0
  pub low : 0 < l1
  pub order : l1 ≤ h
  pub same : (y : Won) → sooner x1 (sooner (span f l1 (h - l1)) y) ≡ sooner x (sooner (span f l (h - l)) y)

pub record RightEnd (f : ℕ → Won) (y y1 : Won) (l h h1 : ℕ) : Type 0 where
  pub even : h1 % 2 ≡ 0
  pub order : l ≤ h1
  pub high : h1 ≤ h
  pub same : (x : Won) → sooner x (sooner (span f l (h1 - l)) y1) ≡ sooner x (sooner (span f l (h - l)) y)

pub left_odd : (f : ℕ → Won) (x x1 : Won) (l l1 h : ℕ) → l % 2 ≡ 1 → l < h → l1 ≡ l + 1 → x1 ≡ sooner x (f l) → LeftEnd f x x1 l l1 h
left_odd f x x1 l l1 h o b e d = record {
  even = omega (arith, o, e);
  low = omega (arith, e);
  order = omega (arith, b, e);
  same = λ y. rw (e, d) (at_left f x y l h b);
}

pub left_even : (f : ℕ → Won) (x x1 : Won) (l l1 h : ℕ) → l % 2 ≢ 1 → 0 < l → l < h → l1 ≡ l → x1 ≡ x → LeftEnd f x x1 l l1 h
left_even f x x1 l l1 h o p b e d = record {
  even = omega (arith, o, e);
  low = omega (arith, e, p);
  order = omega (arith, b, e);
  same = λ y. rw (e, d) refl;
}

pub right_odd : (f : ℕ → Won) (y y1 : Won) (l h h1 : ℕ) → l % 2 ≡ 0 → h % 2 ≡ 1 → l ≤ h → h1 ≡ h - 1 → y1 ≡ sooner (f h1) y → RightEnd f y y1 l h h1
right_odd f y y1 l h h1 q o b e d = let k : l < h = omega (arith, q, o, b) in record {
  even = omega (arith, o, e);
  order = omega (arith, k, e);
  high = omega (arith, e);
  same = λ x. rw (d, e) (at_right f x y l h k);
}

pub right_even : (f : ℕ → Won) (y y1 : Won) (l h h1 : ℕ) → h % 2 ≢ 1 → l ≤ h → h1 ≡ h → y1 ≡ y → RightEnd f y y1 l h h1
right_even f y y1 l h h1 o b e d = record {
  even = omega (arith, o, e);
  order = omega (arith, b, e);
  high = omega (arith, e);
  same = λ x. rw (e, d) refl;
}

pub record NextLevel (f : ℕ → Won) (x y : Won) (l h size : ℕ) (all : Won) : Type 0 where
  pub low : 0 < l
  pub order : l ≤ h
  pub high : h ≤ size + size
  pub same : sooner x (sooner (span f l (h - l)) y) ≡ all

pub next_level : (f : ℕ → Won) (x x1 y y1 : Won) (l l1 h h1 size : ℕ) (all : Won) → LeftEnd f x x1 l l1 h → RightEnd f y y1 l1 h h1 → h ≤ size + size → ((v : ℕ) → 0 < v → v < size → Wins f v)
    → sooner x (sooner (span f l (h - l)) y) ≡ all → NextLevel f x1 y1 (l1 / 2) (h1 / 2) size all
next_level f x x1 y y1 l l1 h h1 size all a b s t e = record {
  low = omega (arith, a.low, a.even);
  order = omega (arith, b.order);
  high = omega (arith, b.high, s);
  same = at_half f x1 y1 l1 h1 size a.even b.even a.low b.order (omega (arith, b.high, s)) t ∙ b.same x1 ∙ a.same y ∙ e;
}

pub closed : (f : ℕ → Won) (x y : Won) (l h : ℕ) (all : Won) → h ≤ l → sooner x (sooner (span f l (h - l)) y) ≡ all → sooner x y ≡ all
unfolding span
closed f x y l h all b e = let z : h - l ≡ 0 = omega (arith, b) in ap (λ k. sooner x (sooner (span f l k) y)) (sym z) ∙ e
