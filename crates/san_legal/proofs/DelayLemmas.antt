-- The delays over all draws, and the choices.
use Rattle.std.proofs.Common.{ℕ, zero, suc, ◌+◌, ◌-◌, ◌*◌, ◌^◌, ◌<◌, ◌≤◌, ◌≡◌, ◌↔◌, ◌∙◌, ap, sym, refl, subst, arith, Bool, true, false, cond, ◌&&◌, fold, nat_le, List, [], ◌∷◌, length, map, Result, Ok, Err, ℤ, pos, negsuc, ◌⊎◌, inl, inr}
use Rattle.std.specs.Prelude.{slice_index, slice_index_or, sum}
use Rattle.std.proofs.Math.Nat.{div-lt_iff_lt-mul, mul-lt-mul_of_pos_right}
use Rattle.std.proofs.lemmas.Bool.{cases_lt, le-ltb, leb-true, lt-ltb}
use Rattle.std.proofs.lemmas.Bool.Decides.{leb_tells}
use Rattle.std.proofs.lemmas.List.{length-map}
use Rattle.san_base.specs.Draws.{first_above, pick, weighted_choice}
use Rattle.san_base.specs.declared.ending.Trap.{Trap}
use Rattle.san_base.specs.declared.ending.Trap.TheVariants as trap
use Rattle.san_draw.proofs.ChoiceLemmas.{picked_by}
use Rattle.san_expr.specs.Delay.{Ticks, between, chance_left, delay_of, geometric, ticks_of}
use Rattle.san_expr.specs.Meaning.{Evaluation, Meaning, go_on, settled, then_do}
use Rattle.san_expr.specs.Value.{value_of}
use Rattle.san_expr.specs.declared.dist.Dist.{Dist}
use Rattle.san_expr.specs.declared.dist.Dist.TheVariants.{Det, Uniform, Geom, Table}
use Rattle.san_delay.specs.Sound.{IsChance, IsDelay, IsSoundDelay, IsTable}
use Rattle.san_delay.proofs.SeriesLemmas.{chance_falls, geometric-is, geometric-least, geometric_falls, longest-least}
use Rattle.san_legal.specs.Delays.{AreThose, Between, Delays, DelaysAreThoseOfDraws, IsDelayOf, IsGiven, OneOf, UpTo, WeightsAreDrawn, delays_of, exactly, span_of}
use Rattle.san_legal.specs.Free.{AreDelays}

word : 0 < 2 ^ 64
word = omega arith

same_ticks : (a b : ℕ) → (let r : Ticks = Ok a in r) ≡ Ok b → a ≡ b
same_ticks a b e = cc

same_trap : (s t : Trap) → (let r : Ticks = Err s in r) ≡ Err t → s ≡ t
same_trap s t e = cc

not_both : (a : ℕ) (t : Trap) → (let r : Ticks = Ok a in r) ≡ Err t → ⊥
not_both a t e = cc

pub pick_below : (u w : ℕ) → u < 2 ^ 64 → 0 < w → pick u w < w
pick_below u w h some =
    let product : u * w < 2 ^ 64 * w = mul-lt-mul_of_pos_right h some in
    (div-lt_iff_lt-mul {k = 2 ^ 64} {x = u * w} {y = w} (omega arith)).1 (omega arith)

-- ---- choices by weight

fold_from : (a : ℕ) (xs : List ℕ) → fold (λ (b x : ℕ). b + x) a xs ≡ a + fold (λ (b x : ℕ). b + x) 0 xs
fold_from a [] = omega arith
fold_from a (x ∷ xs) =
    let one = fold_from (a + x) xs in
    let two = fold_from (0 + x) xs in
    omega (arith, one, two)

sum_more : (w : ℕ) (ws : List ℕ) → sum (w ∷ ws) ≡ w + sum ws
sum_more w ws = let one = fold_from (0 + w) ws in omega (arith, one)

-- what is chosen has a weight
weighs : (before : ℕ) (ws : List ℕ) (n : ℕ) → before ≤ n → n < before + sum ws → 0 < slice_index ws (first_above before ws n)
weighs before [] n low high = absurd (omega (arith, low, high))
weighs before (w ∷ ws) n low high = by_place (λ h. weighs (before + w) ws n h (omega (arith, high, sum_more w ws))) (cases_lt n (before + w))
  where
    by_place : (before + w ≤ n → 0 < slice_index ws (first_above (before + w) ws n)) → (n < before + w) ⊎ (before + w ≤ n) → 0 < slice_index (w ∷ ws) (first_above before (w ∷ ws) n)
    by_place rest (inl h) =
        let here : first_above before (w ∷ ws) n ≡ 0 = ap (λ (b : Bool). cond b 0 (suc (first_above (before + w) ws n))) (lt-ltb n (before + w) h) in
        subst (λ (k : ℕ). 0 < slice_index (w ∷ ws) k) (sym here) (omega (arith, h, low))
    by_place rest (inr h) =
        let there : first_above before (w ∷ ws) n ≡ suc (first_above (before + w) ws n) = ap (λ (b : Bool). cond b 0 (suc (first_above (before + w) ws n))) (le-ltb n (before + w) h) in
        subst (λ (k : ℕ). 0 < slice_index (w ∷ ws) k) (sym there) (rest h)

-- what has a weight is chosen by some number
record ChosenBy (before : ℕ) (ws : List ℕ) (k : ℕ) : Type 0 where
  number : ℕ
  low : before ≤ number
  high : number < before + sum ws
  is : first_above before ws number ≡ k

chosen_by : (before : ℕ) (ws : List ℕ) (k : ℕ) → 0 < slice_index ws k → ChosenBy before ws k
chosen_by before [] k some = absurd (omega (arith, some))
chosen_by before (w ∷ ws) zero some = record {
  number = before;
  low = omega arith;
  high = omega (arith, some, sum_more w ws);
  is = ap (λ (b : Bool). cond b 0 (suc (first_above (before + w) ws before))) (lt-ltb before (before + w) (omega (arith, some)));
}
chosen_by before (w ∷ ws) (suc k) some =
    let more = chosen_by (before + w) ws k some in
    record {
      number = more.number;
      low = omega (arith, more.low);
      high = omega (arith, more.high, sum_more w ws);
      is = ap (λ (b : Bool). cond b 0 (suc (first_above (before + w) ws more.number))) (le-ltb more.number (before + w) more.low) ∙ ap suc more.is;
    }

pub weights_are_drawn : (weights : List ℕ) → WeightsAreDrawn weights
weights_are_drawn weights some most k = (
  (λ drawn. subst (λ (i : ℕ). 0 < slice_index weights i) drawn.2 (weighs 0 weights (pick drawn.0 (sum weights)) (omega arith) (let below = pick_below drawn.0 (sum weights) drawn.1 some in omega (arith, below)))),
  (λ has. (
      let choice = chosen_by 0 weights k has in
      let high = choice.high in
      let drawn = picked_by (sum weights) choice.number most (omega (arith, high)) in
      (drawn.0, drawn.1, ap (first_above 0 weights) drawn.2 ∙ choice.is))),
)

-- ---- each distribution

-- where each draw gives the same
always : (t : Ticks) → AreThose (λ u. t) (exactly t)
always (Err t) = λ u h. refl
always (Ok n) = ((λ ticks. ((λ given. sym (same_ticks n ticks given.2)), (λ e. (0, word, ap Ok (sym e))))), (λ u h. (n, refl)))

det_those : (r : Result ℤ Trap) (a : Evaluation ℤ) → AreThose (λ u. (go_on r a (λ x. settled (ticks_of x))).answer) (go_on r a (λ x. settled (exactly (ticks_of x)))).answer
det_those (Err t) a = λ u h. refl
det_those (Ok x) a = always (ticks_of x)

module _ (a b : Meaning ℤ) (f : ℕ → ℤ → ℤ → Ticks) (g : ℤ → ℤ → Result Delays Trap) (those : (x y : ℤ) → AreThose (λ u. f u x y) (g x y)) where
  by_second : (x : ℤ) (r : Result ℤ Trap) (m : List ℕ) → AreThose (λ u. (go_on r (b m) (λ y. settled (f u x y))).answer) (go_on r (b m) (λ y. settled (g x y))).answer
  by_second x (Ok y) m = those x y
  by_second x (Err t) m = λ u h. refl

  by_first : (r : Result ℤ Trap) (m : List ℕ) → AreThose (λ u. (go_on r (a m) (λ x. then_do b (λ y. settled (f u x y)))).answer) (go_on r (a m) (λ x. then_do b (λ y. settled (g x y)))).answer
  by_first (Ok x) m = by_second x (b (a m).left).answer (a m).left
  by_first (Err t) m = λ u h. refl

abbrev IsInRange : Ticks → Type 0
IsInRange (Ok n) = IsDelay n
IsInRange (Err t) = Unit {0}

both_tests : (n : ℕ) (b c : Bool) → (b ≡ true → 1 ≤ n) → (c ≡ true → n ≤ 4294967296) → IsInRange (cond (b && c) (Ok n) (Err trap.Delay))
both_tests n true true f g = (f refl, g refl)
both_tests n true false f g = tt
both_tests n false c f g = tt

ticks_in_range : (x : ℤ) → IsInRange (ticks_of x)
ticks_in_range (pos n) = both_tests n (nat_le 1 n) (nat_le n 4294967296) (leb-true 1 n) (leb-true n 4294967296)
ticks_in_range (negsuc n) = tt

-- each number of a span
pub span_given : (a b : ℕ) → a ≤ b → IsDelay a → IsDelay b → (ticks : ℕ) → IsGiven (λ u. Ok (a + pick u (b - a + 1))) ticks ↔ ((a ≤ ticks) × (ticks ≤ b))
span_given a b h low high ticks = (
  (λ given. (
      let is : a + pick given.0 (b - a + 1) ≡ ticks = same_ticks (a + pick given.0 (b - a + 1)) ticks given.2 in
      let below = pick_below given.0 (b - a + 1) given.1 (omega arith) in
      (omega (arith, is), omega (arith, is, below, h)))),
  (λ among. (
      let from = among.0 in
      let to = among.1 in
      let drawn = picked_by (b - a + 1) (ticks - a) (omega (arith, low.0, high.1)) (omega (arith, from, to, h)) in
      (drawn.0, drawn.1, (let is : a + pick drawn.0 (b - a + 1) ≡ ticks = omega (arith, drawn.2, from) in ap Ok is)))),
)

abbrev Spans : ℕ → ℕ → Bool → Type 0
Spans a b c = AreThose (λ u. cond c (Ok (a + pick u (b - a + 1))) (Err trap.Delay)) (cond c (Ok (Between a b)) (Err trap.Delay))

by_order : (a b : ℕ) → IsDelay a → IsDelay b → ((nat_le a b ≡ true) × (a ≤ b)) ⊎ ((nat_le a b ≡ false) × (b < a)) → Spans a b (nat_le a b)
by_order a b p q (inl o) = subst (Spans a b) (sym o.0) (span_given a b o.1 p q, λ u h. (a + pick u (b - a + 1), refl))
by_order a b p q (inr o) = subst (Spans a b) (sym o.0) (λ u h. refl)

span_those : (s t : Ticks) → IsInRange s → IsInRange t → AreThose (λ u. between u s t) (span_of s t)
span_those (Err e) t p q = λ u h. refl
span_those (Ok a) (Err e) p q = λ u h. refl
span_those (Ok a) (Ok b) p q = by_order a b p q (leb_tells a b)

-- each entry of positive weight
table_those : (entries : List (ℕ × ℕ)) → IsTable entries → AreThose (λ u. Ok (slice_index (map (λ e. e.0) entries) (weighted_choice u (map (λ e. e.1) entries)))) (Ok (OneOf entries))
table_those entries table = (given, λ u h. (slice_index (map (λ e. e.0) entries) (weighted_choice u (map (λ e. e.1) entries)), refl))
  where
    drawn : (k : ℕ) → ((u : ℕ) × (u < 2 ^ 64) × (weighted_choice u (map (λ e. e.1) entries) ≡ k)) ↔ (0 < slice_index (map (λ e. e.1) entries) k)
    drawn = weights_are_drawn (map (λ e. e.1) entries) table.weights.0 table.weights.1

    given : (ticks : ℕ) → IsGiven (λ u. Ok (slice_index (map (λ e. e.0) entries) (weighted_choice u (map (λ e. e.1) entries)))) ticks ↔ IsDelayOf (OneOf entries) ticks
    given ticks = (
      (λ by_draw. (
          let k = weighted_choice by_draw.0 (map (λ e. e.1) entries) in
          (k, (drawn k).0 (by_draw.0, by_draw.1, refl), same_ticks (slice_index (map (λ e. e.0) entries) k) ticks by_draw.2))),
      (λ is. (let u = (drawn is.0).1 is.1 in (u.0, u.1, ap (λ (k : ℕ). (let r : Ticks = Ok (slice_index (map (λ e. e.0) entries) k) in r)) u.2 ∙ ap Ok is.2))),
    )

-- each number up to the longest
positive : (n : ℕ) → (n ≡ 0 → ⊥) → 0 < n
positive zero h = absurd (h refl)
positive (suc n) h = omega arith

falls_to : (p q : ℕ) → IsChance p q → (d k : ℕ) → k < d → ((m : ℕ) → m < d → 0 < chance_left p q m) → chance_left p q d < chance_left p q k
falls_to p q chance zero k h some = absurd (omega (arith, h))
falls_to p q chance (suc d) k h some = by_place (λ l. falls_to p q chance d k l (λ m g. some m (omega (arith, g)))) (cases_lt k d)
  where
    last : chance_left p q (suc d) < chance_left p q d
    last = chance_falls p q d chance (some d (omega arith))

    by_place : (k < d → chance_left p q d < chance_left p q k) → (k < d) ⊎ (d ≤ k) → chance_left p q (suc d) < chance_left p q k
    by_place rest (inl l) = let more = rest l in omega (arith, more, last)
    by_place rest (inr l) = let same : d ≡ k = omega (arith, h, l) in subst (λ (x : ℕ). chance_left p q (suc d) < chance_left p q x) same last

goes_on : (p q : ℕ) → IsChance p q → (d : ℕ) → d ≤ geometric p q 0 → (m : ℕ) → m < d → 0 < chance_left p q m
goes_on p q chance d most zero h = word
goes_on p q chance d most (suc m) h = positive (chance_left p q (suc m)) ((longest-least p q chance).before (suc m) (omega arith) (omega (arith, h, most)))

geom_those : (p q : ℕ) → IsChance p q → AreThose (λ u. Ok (geometric p q u)) (Ok (UpTo (geometric p q 0)))
geom_those p q chance = (given, λ u h. (geometric p q u, refl))
  where
    draw : (ticks : ℕ) → 1 ≤ ticks → ticks ≤ geometric p q 0 → IsGiven (λ u. Ok (geometric p q u)) ticks
    draw ticks some most =
        let on = goes_on p q chance ticks most in
        let is : ticks ≡ geometric p q (chance_left p q ticks) = geometric-is p q (chance_left p q ticks) ticks chance some (omega arith) (λ k low below. falls_to p q chance ticks k below on) in
        (chance_left p q ticks, falls_to p q chance ticks 0 some on, ap Ok (sym is))

    given : (ticks : ℕ) → IsGiven (λ u. Ok (geometric p q u)) ticks ↔ IsDelayOf (UpTo (geometric p q 0)) ticks
    given ticks = (
      (λ by_draw. subst (λ (d : ℕ). (1 ≤ d) × (d ≤ geometric p q 0)) (same_ticks (geometric p q by_draw.0) ticks by_draw.2) ((geometric-least p q by_draw.0 chance).some, geometric_falls p q by_draw.0 chance)),
      (λ is. draw ticks is.0 is.1),
    )

pub delays_are_those : (d : Dist) → DelaysAreThoseOfDraws d
delays_are_those (Det e) sound m = det_those (value_of e m).answer (value_of e m)
delays_are_those (Uniform low high) sound m =
    by_first (value_of low) (value_of high) (λ u x y. between u (ticks_of x) (ticks_of y)) (λ x y. span_of (ticks_of x) (ticks_of y))
    (λ x y. span_those (ticks_of x) (ticks_of y) (ticks_in_range x) (ticks_in_range y)) (value_of low m).answer m
delays_are_those (Geom p q) sound m = geom_those p q sound
delays_are_those (Table entries) sound m = table_those entries sound

-- ---- delays are at least one tick, and trap whatever the draw

abbrev AreSome : Result Delays Trap → Type 0
AreSome (Ok delays) = (ticks : ℕ) → IsDelayOf delays ticks → 1 ≤ ticks
AreSome (Err t) = Unit {0}

exactly_some : (t : Ticks) → IsInRange t → AreSome (exactly t)
exactly_some (Err t) h = tt
exactly_some (Ok n) h = λ ticks e. omega (arith, e, h.0)

det_some : (r : Result ℤ Trap) (a : Evaluation ℤ) → AreSome (go_on r a (λ x. settled (exactly (ticks_of x)))).answer
det_some (Err t) a = tt
det_some (Ok x) a = exactly_some (ticks_of x) (ticks_in_range x)

test_some : (a b : ℕ) (c : Bool) → IsDelay a → AreSome (cond c (Ok (Between a b)) (Err trap.Delay))
test_some a b true h = λ ticks among. (let from = among.0 in omega (arith, from, h.0))
test_some a b false h = tt

span_some : (s t : Ticks) → IsInRange s → AreSome (span_of s t)
span_some (Err e) t p = tt
span_some (Ok a) (Err e) p = tt
span_some (Ok a) (Ok b) p = test_some a b (nat_le a b) p

second_some : (x : ℤ) (r : Result ℤ Trap) (b : Evaluation ℤ) → AreSome (go_on r b (λ y. settled (span_of (ticks_of x) (ticks_of y)))).answer
second_some x (Ok y) b = span_some (ticks_of x) (ticks_of y) (ticks_in_range x)
second_some x (Err t) b = tt

first_some : (low high : Meaning ℤ) (r : Result ℤ Trap) (m : List ℕ) → AreSome (go_on r (low m) (λ x. then_do high (λ y. settled (span_of (ticks_of x) (ticks_of y))))).answer
first_some low high (Ok x) m = second_some x (high (low m).left).answer (high (low m).left)
first_some low high (Err t) m = tt

index_there : (xs : List ℕ) (k : ℕ) → 0 < slice_index xs k → k < length xs
index_there [] k h = absurd (omega (arith, h))
index_there (x ∷ xs) zero h = omega arith
index_there (x ∷ xs) (suc k) h = let more = index_there xs k h in omega (arith, more)

first_of : (entries : List (ℕ × ℕ)) (k : ℕ) → slice_index (map (λ e. e.0) entries) k ≡ (slice_index_or entries k (0, 0)).0
first_of [] k = refl
first_of (e ∷ entries) zero = refl
first_of (e ∷ entries) (suc k) = first_of entries k

table_some : (entries : List (ℕ × ℕ)) → IsTable entries → AreSome (Ok (OneOf entries))
table_some entries table ticks is =
    let there : is.0 < length entries = (let inside = index_there (map (λ e. e.1) entries) is.0 is.1 in omega (arith, inside, length-map entries (λ e. e.1))) in
    let delay : 1 ≤ (slice_index_or entries is.0 (0, 0)).0 = (table.delays is.0 (0, 0) there).0 in
    omega (arith, delay, first_of entries is.0, is.2)

delays_some : (d : Dist) → IsSoundDelay d → (m : List ℕ) → AreSome (delays_of d m).answer
delays_some (Det e) sound m = det_some (value_of e m).answer (value_of e m)
delays_some (Uniform low high) sound m = first_some (value_of low) (value_of high) (value_of low m).answer m
delays_some (Geom p q) sound m = λ ticks is. is.0
delays_some (Table entries) sound m = table_some entries sound

module _ (answers : ℕ → Ticks) where
  ticks_some : (r : Result Delays Trap) → AreThose answers r → AreSome r → (u ticks : ℕ) → u < 2 ^ 64 → answers u ≡ Ok ticks → 1 ≤ ticks
  ticks_some (Ok delays) those some u ticks h e = some ticks ((those.0 ticks).0 (u, h, e))
  ticks_some (Err t) those some u ticks h e = absurd (not_both ticks t (sym e ∙ those u h))

  traps_alike : (r : Result Delays Trap) → AreThose answers r → (u w : ℕ) (t : Trap) → u < 2 ^ 64 → w < 2 ^ 64 → answers u ≡ Err t → answers w ≡ Err t
  traps_alike (Ok delays) those u w t hu hw e = let given = those.1 u hu in absurd (not_both given.0 t (sym given.1 ∙ e))
  traps_alike (Err s) those u w t hu hw e = let same : s ≡ t = same_trap s t (sym (those u hu) ∙ e) in those w hw ∙ ap (λ (x : Trap). (let r : Ticks = Err x in r)) same

pub are_delays : (d : Dist) → IsSoundDelay d → AreDelays (λ u values. (delay_of d u values).answer)
are_delays d sound = record {
  some = λ u ticks values h e. ticks_some (λ v. (delay_of d v values).answer) (delays_of d values).answer (delays_are_those d sound values) (delays_some d sound values) u ticks h e;
  traps = λ u w values t hu hw e. traps_alike (λ v. (delay_of d v values).answer) (delays_of d values).answer (delays_are_those d sound values) u w t hu hw e;
}
