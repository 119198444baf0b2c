-- The passages of runs, one behind another and shared out.
use Rattle.std.proofs.Common.{ℕ, zero, suc, ◌+◌, ◌^◌, ◌≤◌, ◌≡◌, ◌∙◌, ap, sym, refl, subst, arith, min, max, Bool, List, Option, Some, None}
use Rattle.san_base.specs.declared.limits.Limits.{Limits}
use Rattle.san_base.specs.declared.numbers.Tick.{Tick}
use Rattle.san_net.specs.Network.{Network}
use Rattle.san_passage.specs.Passages.{passage_of}
use Rattle.san_passage.specs.Totals.{earlier, later, no_passages, passages_of, with_passage, with_run}
use Rattle.san_passage.specs.declared.passage.Passage.{Passage}
use Rattle.san_passage.specs.declared.passage.Passage.TheVariants as passage
use Rattle.san_passage.specs.declared.totals.Passages.{Passages}
use Rattle.san_passage.specs.inner.Joined.{AreFew, IsShare, earliest, joined, latest}

-- one run more is counted once
count_more : (s : Passages) (p : Passage) → (with_passage s p).reached + ((with_passage s p).never + (with_passage s p).stopped) ≡ suc (s.reached + (s.never + s.stopped))
count_more s (passage.At time count) = omega arith
count_more s passage.Never = omega arith
count_more s (passage.Stopped why) = omega arith

module _ (n : Network) (limits : Limits) (holds : List ℕ → Bool) where
  pub no_run : (seed : ℕ) (s : Passages) → s ≡ no_passages → IsShare n limits holds seed 0 s
  no_run seed s is = record { is = is; few = subst (AreFew 0) (sym is) (record { runs = omega arith; sum = omega arith }) }

  pub run_after : (seed k : ℕ) (old new : Passages) (p : Passage) → IsShare n limits holds seed k old → Some p ≡ passage_of n (seed + k) limits holds → new ≡ with_passage old p → new.sum ≤ old.sum + 2 ^ 64
      → IsShare n limits holds seed (k + 1) new
  run_after seed k old new p h run is more =
      let next : suc k ≡ k + 1 = omega arith in
      let counts = count_more old p in
      let same : new.reached + (new.never + new.stopped) ≡ suc (old.reached + (old.never + old.stopped)) = ap (λ (s : Passages). s.reached + (s.never + s.stopped)) is ∙ counts in
      record {
        is = is ∙ ap (λ (s : Passages). with_passage s p) h.is ∙ ap (with_run (passages_of n limits holds seed k)) run ∙ ap (passages_of n limits holds seed) next;
        few = record { runs = omega (arith, same, h.few.runs); sum = omega (arith, more, h.few.sum) };
      }

-- runs behind others
some_tick : ℕ → Option Tick
some_tick k = Some (record { 0 = k })

earliest_none : (o : Option Tick) → earliest o None ≡ o
earliest_none None = refl
earliest_none (Some t) = refl

latest_none : (o : Option Tick) → latest o None ≡ o
latest_none None = refl
latest_none (Some t) = refl

earliest_with : (o p : Option Tick) (t : Tick) → earliest o (earlier t p) ≡ earlier t (earliest o p)
unfolding some_tick
earliest_with None p t = refl
earliest_with (Some a) None t = let e : min a.0 t.0 ≡ min t.0 a.0 = omega arith in ap some_tick e
earliest_with (Some a) (Some b) t = let e : min a.0 (min t.0 b.0) ≡ min t.0 (min a.0 b.0) = omega arith in ap some_tick e

latest_with : (o p : Option Tick) (t : Tick) → latest o (later t p) ≡ later t (latest o p)
unfolding some_tick
latest_with None p t = refl
latest_with (Some a) None t = let e : max a.0 t.0 ≡ max t.0 a.0 = omega arith in ap some_tick e
latest_with (Some a) (Some b) t = let e : max a.0 (max t.0 b.0) ≡ max t.0 (max a.0 b.0) = omega arith in ap some_tick e

abbrev totals : ℕ → ℕ → ℕ → ℕ → Option Tick → Option Tick → Passages
totals r n s total least greatest = record { reached = r; never = n; stopped = s; sum = total; least = least; greatest = greatest }

totals_same : (r q n m s t x y : ℕ) (a b c d : Option Tick) → r ≡ q → n ≡ m → s ≡ t → x ≡ y → a ≡ b → c ≡ d → totals r n s x a c ≡ totals q m t y b d
totals_same r q n m s t x y a b c d e f g h i j = λ k. totals (e k) (f k) (g k) (h k) (i k) (j k)

joined_none : (s : Passages) → joined s no_passages ≡ s
joined_none s = totals_same (s.reached + 0) s.reached (s.never + 0) s.never (s.stopped + 0) s.stopped (s.sum + 0) s.sum (earliest s.least None) s.least (latest s.greatest None) s.greatest
    (omega arith) (omega arith) (omega arith) (omega arith) (earliest_none s.least) (latest_none s.greatest)

right : (a b c : ℕ) → a + (b + c) ≡ (a + b) + c
right a b c = omega arith

joined_with : (s t : Passages) (p : Passage) → joined s (with_passage t p) ≡ with_passage (joined s t) p
joined_with s t (passage.At time count) =
    totals_same _ _ _ _ _ _ _ _ _ _ _ _ (right s.reached t.reached 1) refl refl (right s.sum t.sum time.0) (earliest_with s.least t.least time) (latest_with s.greatest t.greatest time)
joined_with s t passage.Never = totals_same _ _ _ _ _ _ _ _ _ _ _ _ refl (right s.never t.never 1) refl refl refl refl
joined_with s t (passage.Stopped why) = totals_same _ _ _ _ _ _ _ _ _ _ _ _ refl refl (right s.stopped t.stopped 1) refl refl refl

joined_run : (s t : Passages) (o : Option Passage) → joined s (with_run t o) ≡ with_run (joined s t) o
joined_run s t None = refl
joined_run s t (Some p) = joined_with s t p

module _ (n : Network) (limits : Limits) (holds : List ℕ → Bool) where
  passages_add : (seed x y : ℕ) → joined (passages_of n limits holds seed x) (passages_of n limits holds (seed + x) y) ≡ passages_of n limits holds seed (x + y)
  passages_add seed x zero =
      let e : x ≡ x + 0 = omega arith in
      joined_none (passages_of n limits holds seed x) ∙ ap (passages_of n limits holds seed) e
  passages_add seed x (suc y) =
      let e : suc (x + y) ≡ x + suc y = omega arith in
      let f : seed + x + y ≡ seed + (x + y) = omega arith in
      joined_run (passages_of n limits holds seed x) (passages_of n limits holds (seed + x) y) (passage_of n (seed + x + y) limits holds)
      ∙ ap (λ (s : Passages). with_run s (passage_of n (seed + x + y) limits holds)) (passages_add seed x y)
      ∙ ap (λ (k : ℕ). with_run (passages_of n limits holds seed (x + y)) (passage_of n k limits holds)) f
      ∙ ap (passages_of n limits holds seed) e

  pub runs_joined : (seed x y : ℕ) (a b new : Passages) → IsShare n limits holds seed x a → IsShare n limits holds (seed + x) y b → new ≡ joined a b → IsShare n limits holds seed (x + y) new
  runs_joined seed x y a b new h k is = record {
    is = is ∙ ap (λ (s : Passages). joined s b) h.is ∙ ap (joined (passages_of n limits holds seed x)) k.is ∙ passages_add seed x y;
    few = subst (AreFew (x + y)) (sym is) (record { runs = omega (arith, h.few.runs, k.few.runs); sum = omega (arith, h.few.sum, k.few.sum) });
  }

  pub at_most : (seed x y : ℕ) (s : Passages) → x ≤ y → IsShare n limits holds seed x s → AreFew y s
  at_most seed x y s l h = record { runs = omega (arith, l, h.few.runs); sum = omega (arith, l, h.few.sum) }

  pub whole : (seed x runs : ℕ) (s : Passages) → x ≡ runs → IsShare n limits holds seed x s → s ≡ passages_of n limits holds seed runs
  whole seed x runs s e h = h.is ∙ ap (passages_of n limits holds seed) e
