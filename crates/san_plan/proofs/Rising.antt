-- A leaf's plan comes no sooner while versions go, time passes, and nothing else of the leaf changes.
use Rattle.std.proofs.Common.{ℕ, ◌<◌, ◌≤◌, ◌≡◌, ◌∙◌, ◌&&◌, ◌||◌, ap, sym, refl, subst, arith, not, Bool, true, false, nat_eq, nat_lt, nat_le, List, [], ◌∷◌, Option, Some, None, cond}
use Rattle.std.specs.List.{filter}
use Rattle.std.proofs.lemmas.Bool.Decides.{nat_tests}
use Rattle.san_book.specs.Chains.{Chain}
use Rattle.san_book.specs.Lines.{Line, line_of}
use Rattle.san_book.specs.Machines.{Machine, sees_all}
use Rattle.san_book.specs.Plans.{Plan, chosen, in_time, is_leaf, lesser, next_version, numbers_of, plan_after, plan_done, plan_first, plan_from, plan_over, time_of, when}
use Rattle.san_law.specs.Order.{Order, flag}
use Rattle.san_law.specs.Piece.{Fire, Refresh, Settle}
use Rattle.san_line.specs.Lines.{first_by, next_after, next_by}
use Rattle.san_line.specs.Ordered.{AllAfter, IsOrdered}
use Rattle.san_line.specs.declared.version.Version.{Version}
use Rattle.san_plan.specs.Soonest.{NoLater}

pub no_later_self : (x : Option ℕ) → NoLater x x
no_later_self None = tt
no_later_self (Some k) = omega arith

pub no_later_then : (x y z : Option ℕ) → NoLater x y → NoLater y z → NoLater x z
no_later_then x y None h k = tt
no_later_then x None (Some t) h k = absurd k
no_later_then None (Some s) (Some t) h k = absurd h
no_later_then (Some r) (Some s) (Some t) h k = omega (arith, h, k)

-- a time, and a time with a leaf
abbrev pub first_time : Option (ℕ × ℕ) → Option ℕ
first_time None = None
first_time (Some x) = Some x.0

-- the order by time and then by something else
first_low : (a b : ℕ) (r : Bool) → first_by a b r ≡ true → a ≤ b
first_low a b r h = grind (arith, nat_tests)

first_high : (a b : ℕ) (r : Bool) → first_by a b r ≡ false → b ≤ a
first_high a b r h = grind (arith, nat_tests)

-- the lesser of two is no later than both, and what is no later than both is no later than it
abbrev pair_by : Bool → ℕ × ℕ → ℕ × ℕ → Option (ℕ × ℕ)
pair_by b y x = cond b (Some y) (Some x)

lesser_left : (a b : Option (ℕ × ℕ)) → NoLater (first_time (lesser a b)) (first_time a)
lesser_left None b = tt
lesser_left (Some x) None = omega arith
lesser_left (Some x) (Some y) = by_test (first_by y.0 x.0 (nat_lt y.1 x.1)) refl
  where
    by_test : (t : Bool) → first_by y.0 x.0 (nat_lt y.1 x.1) ≡ t → NoLater (first_time (pair_by t y x)) (Some x.0)
    by_test true e = first_low y.0 x.0 (nat_lt y.1 x.1) e
    by_test false e = omega arith

lesser_right : (a b : Option (ℕ × ℕ)) → NoLater (first_time (lesser a b)) (first_time b)
lesser_right None b = no_later_self (first_time b)
lesser_right (Some x) None = tt
lesser_right (Some x) (Some y) = by_test (first_by y.0 x.0 (nat_lt y.1 x.1)) refl
  where
    by_test : (t : Bool) → first_by y.0 x.0 (nat_lt y.1 x.1) ≡ t → NoLater (first_time (pair_by t y x)) (Some y.0)
    by_test true e = omega arith
    by_test false e = first_high y.0 x.0 (nat_lt y.1 x.1) e

lesser_under : (k : Option ℕ) (a b : Option (ℕ × ℕ)) → NoLater k (first_time a) → NoLater k (first_time b) → NoLater k (first_time (lesser a b))
lesser_under k None b h g = g
lesser_under k (Some x) None h g = h
lesser_under k (Some x) (Some y) h g = by_test (first_by y.0 x.0 (nat_lt y.1 x.1))
  where
    by_test : (t : Bool) → NoLater k (first_time (pair_by t y x))
    by_test true = g
    by_test false = h

lesser_rises : (a b c d : Option (ℕ × ℕ)) → NoLater (first_time a) (first_time c) → NoLater (first_time b) (first_time d) → NoLater (first_time (lesser a b)) (first_time (lesser c d))
lesser_rises a b c d h g =
    lesser_under (first_time (lesser a b)) c d
    (no_later_then (first_time (lesser a b)) (first_time a) (first_time c) (lesser_left a b) h)
    (no_later_then (first_time (lesser a b)) (first_time b) (first_time d) (lesser_right a b) g)

-- the first version of another leaf above a time
abbrev pub next_time : ℕ → ℕ → List Version → Option ℕ
next_time j t vs = first_time (numbers_of (next_after j t vs))

abbrev is_next : ℕ → ℕ → Version → Bool
is_next j t x = not (nat_eq x.leaf.0 j) && nat_lt t x.time.0

abbrev next_from : Bool → Version → ℕ → ℕ → List Version → Option ℕ
next_from b x j t xs = first_time (numbers_of (next_by b x (next_after j t xs)))

above_is : (l j t a : ℕ) → (not (nat_eq l j) && nat_lt t a) ≡ true → t < a
above_is l j t a h = grind (arith, nat_tests)

later_is : (l j t u a : ℕ) → t ≤ u → (not (nat_eq l j) && nat_lt u a) ≡ true → (not (nat_eq l j) && nat_lt t a) ≡ true
later_is l j t u a le h = grind (arith, nat_tests)

passed_is : (l j t u a : ℕ) → (not (nat_eq l j) && nat_lt t a) ≡ true → (not (nat_eq l j) && nat_lt u a) ≡ false → a ≤ u
passed_is l j t u a h k = grind (arith, nat_tests)

found_above : (j u k : ℕ) → k ≤ u → (xs : List Version) → NoLater (Some k) (next_time j u xs)
found_above j u k l [] = tt
found_above j u k l (x ∷ xs) = by_test (is_next j u x) refl (found_above j u k l xs)
  where
    by_test : (b : Bool) → is_next j u x ≡ b → NoLater (Some k) (next_time j u xs) → NoLater (Some k) (next_from b x j u xs)
    by_test true e h = let a = above_is x.leaf.0 j u x.time.0 e in omega (arith, a, l)
    by_test false e h = h

-- it comes no sooner above a later time
later_rises : (j t u : ℕ) → t ≤ u → (xs : List Version) → NoLater (next_time j t xs) (next_time j u xs)
later_rises j t u l [] = tt
later_rises j t u l (x ∷ xs) = by_tests (is_next j t x) (is_next j u x) refl refl (later_rises j t u l xs)
  where
    by_tests : (b c : Bool) → is_next j t x ≡ b → is_next j u x ≡ c → NoLater (next_time j t xs) (next_time j u xs) → NoLater (next_from b x j t xs) (next_from c x j u xs)
    by_tests true true e f h = omega arith
    by_tests false false e f h = h
    by_tests true false e f h = found_above j u x.time.0 (passed_is x.leaf.0 j t u x.time.0 e f) xs
    by_tests false true e f h = absurd (let k : false ≡ true = sym e ∙ later_is x.leaf.0 j t u x.time.0 l f in cc)

-- and where versions have gone
after_gone : (j u : ℕ) (gone : ℕ → ℕ → Bool) (x : Version) (xs : List Version) → AllAfter x xs → NoLater (Some x.time.0) (next_time j u (filter (λ v. not (gone v.leaf.0 v.pos)) xs))
after_gone j u gone x [] all = tt
after_gone j u gone x (y ∷ ys) all = by_gone (gone y.leaf.0 y.pos) (after_gone j u gone x ys all.1)
  where
    by_test : (b : Bool) (rest : List Version) → NoLater (Some x.time.0) (next_time j u rest) → NoLater (Some x.time.0) (next_from b y j u rest)
    by_test true rest h = first_low x.time.0 y.time.0 (first_by x.leaf.0 y.leaf.0 (nat_lt x.pos y.pos)) all.0
    by_test false rest h = h

    by_gone : (g : Bool) → NoLater (Some x.time.0) (next_time j u (filter (λ v. not (gone v.leaf.0 v.pos)) ys)) → NoLater (Some x.time.0) (next_time j u (cond (not g) (y ∷ filter (λ v. not (gone v.leaf.0 v.pos)) ys) (filter (λ v. not (gone v.leaf.0 v.pos)) ys)))
    by_gone true h = h
    by_gone false h = by_test (is_next j u y) (filter (λ v. not (gone v.leaf.0 v.pos)) ys) h

gone_rises : (j u : ℕ) (gone : ℕ → ℕ → Bool) (xs : List Version) → IsOrdered xs → NoLater (next_time j u xs) (next_time j u (filter (λ v. not (gone v.leaf.0 v.pos)) xs))
gone_rises j u gone [] ordered = tt
gone_rises j u gone (x ∷ xs) ordered = by_gone (gone x.leaf.0 x.pos) (gone_rises j u gone xs ordered.2)
  where
    kept : (b : Bool) (rest : List Version) → NoLater (next_time j u xs) (next_time j u rest) → NoLater (next_from b x j u xs) (next_from b x j u rest)
    kept true rest h = omega arith
    kept false rest h = h

    went : (b : Bool) → NoLater (next_time j u xs) (next_time j u (filter (λ v. not (gone v.leaf.0 v.pos)) xs)) → NoLater (next_from b x j u xs) (next_time j u (filter (λ v. not (gone v.leaf.0 v.pos)) xs))
    went true h = after_gone j u gone x xs ordered.0
    went false h = h

    by_gone : (g : Bool) → NoLater (next_time j u xs) (next_time j u (filter (λ v. not (gone v.leaf.0 v.pos)) xs)) → NoLater (next_from (is_next j u x) x j u xs) (next_time j u (cond (not g) (x ∷ filter (λ v. not (gone v.leaf.0 v.pos)) xs) (filter (λ v. not (gone v.leaf.0 v.pos)) xs)))
    by_gone true h = went (is_next j u x) h
    by_gone false h = kept (is_next j u x) (filter (λ v. not (gone v.leaf.0 v.pos)) xs) h

pub less_rises : (j t u : ℕ) (gone : ℕ → ℕ → Bool) (xs : List Version) → t ≤ u → IsOrdered xs → NoLater (next_time j t xs) (next_time j u (filter (λ v. not (gone v.leaf.0 v.pos)) xs))
less_rises j t u gone xs l ordered = no_later_then (next_time j t xs) (next_time j u xs) (next_time j u (filter (λ v. not (gone v.leaf.0 v.pos)) xs)) (later_rises j t u l xs) (gone_rises j u gone xs ordered)

pub same_rises : (j t u : ℕ) (xs : List Version) → t ≤ u → NoLater (next_time j t xs) (next_time j u xs)
same_rises j t u xs l = later_rises j t u l xs

-- over a leaf's places, whose versions rise
abbrev pub LineRises : List Line → List Line → ℕ → ℕ → Type 0
LineRises old new j q = (t u : ℕ) → t ≤ u → NoLater (next_time j t (line_of old q).versions) (next_time j u (line_of new q).versions)

abbrev pub LinesRise : List Line → List Line → ℕ → List ℕ → Type 0
LinesRise old new j [] = Unit {0}
LinesRise old new j (q ∷ qs) = LineRises old new j q × LinesRise old new j qs

versions_rise : (old new : List Line) (j t u : ℕ) → t ≤ u → (qs : List ℕ) → LinesRise old new j qs → NoLater (first_time (next_version old j t qs)) (first_time (next_version new j u qs))
versions_rise old new j t u l [] h = tt
versions_rise old new j t u l (q ∷ qs) h =
    lesser_rises (numbers_of (next_after j t (line_of old q).versions)) (next_version old j t qs) (numbers_of (next_after j u (line_of new q).versions)) (next_version new j u qs)
    (h.0 t u l) (versions_rise old new j t u l qs h.1)

-- up to the horizon
in_time_rises : (horizon : ℕ) (a b : Option (ℕ × ℕ)) → NoLater (first_time a) (first_time b) → NoLater (first_time (in_time horizon a)) (first_time (in_time horizon b))
in_time_rises horizon a None h = tt
in_time_rises horizon None (Some y) h = absurd h
in_time_rises horizon (Some x) (Some y) h = by_tests (nat_le x.0 horizon) (nat_le y.0 horizon) refl refl
  where
    both : (a b k : ℕ) → a ≤ b → nat_le b k ≡ true → nat_le a k ≡ true
    both a b k l e = grind (arith, nat_tests)

    by_tests : (b c : Bool) → nat_le x.0 horizon ≡ b → nat_le y.0 horizon ≡ c → NoLater (first_time (when b (Some x))) (first_time (when c (Some y)))
    by_tests b false e f = tt
    by_tests true true e f = h
    by_tests false true e f = absurd (let k : false ≡ true = sym e ∙ both x.0 y.0 horizon h f in cc)

-- the leaf's own timer, or the version
abbrev plan_by : Bool → ℕ × ℕ → ℕ × ℕ → Option Plan
plan_by b v d = cond b (Some (record { kind = Settle; time = v.0 })) (Some (record { kind = Fire d.1; time = d.0 }))

chosen_rises : (j : ℕ) (d v w : Option (ℕ × ℕ)) → NoLater (first_time v) (first_time w) → NoLater (time_of (chosen j d v)) (time_of (chosen j d w))
chosen_rises j None None None h = tt
chosen_rises j None (Some x) None h = tt
chosen_rises j None None (Some y) h = absurd h
chosen_rises j None (Some x) (Some y) h = h
chosen_rises j (Some d) None None h = omega arith
chosen_rises j (Some d) None (Some y) h = absurd h
chosen_rises j (Some d) (Some x) None h = by_test (first_by x.0 d.0 (nat_lt x.1 j)) refl
  where
    by_test : (b : Bool) → first_by x.0 d.0 (nat_lt x.1 j) ≡ b → NoLater (time_of (plan_by b x d)) (Some d.0)
    by_test true e = first_low x.0 d.0 (nat_lt x.1 j) e
    by_test false e = omega arith
chosen_rises j (Some d) (Some x) (Some y) h = by_tests (first_by x.0 d.0 (nat_lt x.1 j)) (first_by y.0 d.0 (nat_lt y.1 j)) refl refl
  where
    by_tests : (b c : Bool) → first_by x.0 d.0 (nat_lt x.1 j) ≡ b → first_by y.0 d.0 (nat_lt y.1 j) ≡ c → NoLater (time_of (plan_by b x d)) (time_of (plan_by c y d))
    by_tests true true e f = h
    by_tests true false e f = first_low x.0 d.0 (nat_lt x.1 j) e
    by_tests false true e f = let k = first_high x.0 d.0 (nat_lt x.1 j) e in omega (arith, k, h)
    by_tests false false e f = omega arith

module _ {H S P : Type 0} (m : Machine H S P) (horizon : ℕ) (old new : List Line) (j : ℕ) (rise : LinesRise old new j (m.places j)) where
  from_rises : (t u : ℕ) (s : S) → t ≤ u → NoLater (time_of (plan_from m horizon old j t s)) (time_of (plan_from m horizon new j u s))
  from_rises t u s l =
      chosen_rises j (in_time horizon (m.due s)) (in_time horizon (next_version old j t (m.places j))) (in_time horizon (next_version new j u (m.places j)))
      (in_time_rises horizon (next_version old j t (m.places j)) (next_version new j u (m.places j)) (versions_rise old new j t u l (m.places j) rise))

  after_rises : (p : P) → NoLater (time_of (plan_after m horizon old j p)) (time_of (plan_after m horizon new j p))
  after_rises p = by_trap (m.reading.trapped p)
    where
      by_kind : (b : Bool) → NoLater (time_of (cond b (plan_from m horizon old j (m.reading.time p) (m.reading.end p)) (Some (record { kind = Refresh; time = m.reading.time p })))) (time_of (cond b (plan_from m horizon new j (m.reading.time p) (m.reading.end p)) (Some (record { kind = Refresh; time = m.reading.time p }))))
      by_kind true = from_rises (m.reading.time p) (m.reading.time p) (m.reading.end p) (omega arith)
      by_kind false = omega arith

      by_more : (b : Bool) → NoLater (time_of (cond b (Some (record { kind = Settle; time = m.reading.time p })) (plan_done m horizon old j p))) (time_of (cond b (Some (record { kind = Settle; time = m.reading.time p })) (plan_done m horizon new j p)))
      by_more true = omega arith
      by_more false = by_kind (sees_all (m.reading.kind p))

      by_trap : (b : Bool) → NoLater (time_of (cond b None (cond (m.reading.more p) (Some (record { kind = Settle; time = m.reading.time p })) (plan_done m horizon old j p)))) (time_of (cond b None (cond (m.reading.more p) (Some (record { kind = Settle; time = m.reading.time p })) (plan_done m horizon new j p))))
      by_trap true = tt
      by_trap false = by_more (m.reading.more p)

  over_rises : (x y : Option Plan) (xs : Chain P) → NoLater (time_of x) (time_of y) → NoLater (time_of (plan_over m horizon old j x xs)) (time_of (plan_over m horizon new j y xs))
  over_rises x y [] h = h
  over_rises x y (z ∷ xs) h = over_rises (plan_after m horizon old j z.1) (plan_after m horizon new j z.1) xs (after_rises z.1)

  -- from the committed state
  abbrev first_time_by : S → Bool → Bool → List Line → ℕ → Option ℕ
  first_time_by s a b lines t = time_of (cond a (Some (record { kind = Settle; time = t })) (cond b (Some (record { kind = Refresh; time = t })) (plan_from m horizon lines j t s)))

  first_rises : (o p : Order) (s : S) → is_leaf j o.going ≡ is_leaf j p.going → flag o.unsettled j ≡ flag p.unsettled j → flag o.stale j ≡ flag p.stale j → o.time ≤ p.time
      → NoLater (time_of (plan_first m horizon old j o s)) (time_of (plan_first m horizon new j p s))
  first_rises o p s going unsettled stale l =
      subst (λ (b : Bool). NoLater (time_of (plan_first m horizon old j o s)) (first_time_by s b (flag p.stale j) new p.time)) (ap (λ (b : Bool). b || flag o.unsettled j) going ∙ ap (λ (b : Bool). is_leaf j p.going || b) unsettled)
      (subst (λ (b : Bool). NoLater (time_of (plan_first m horizon old j o s)) (first_time_by s (is_leaf j o.going || flag o.unsettled j) b new p.time)) stale
      (by_flags (is_leaf j o.going || flag o.unsettled j) (flag o.stale j)))
    where
      by_flags : (a b : Bool) → NoLater (first_time_by s a b old o.time) (first_time_by s a b new p.time)
      by_flags true b = l
      by_flags false true = l
      by_flags false false = from_rises o.time p.time s l

  pub plan_rises : (o p : Order) (s : S) (xs : Chain P) → is_leaf j o.going ≡ is_leaf j p.going → flag o.unsettled j ≡ flag p.unsettled j → flag o.stale j ≡ flag p.stale j → o.time ≤ p.time
      → NoLater (time_of (plan_over m horizon old j (plan_first m horizon old j o s) xs)) (time_of (plan_over m horizon new j (plan_first m horizon new j p s) xs))
  plan_rises o p s xs going unsettled stale l = over_rises (plan_first m horizon old j o s) (plan_first m horizon new j p s) xs (first_rises o p s going unsettled stale l)
