-- Impulses counted one after another.
use Rattle.std.proofs.Common.{ℕ, zero, suc, ◌+◌, ◌-◌, ◌<◌, ◌≤◌, ◌≡◌, ◌≢◌, ◌∙◌, ap, sym, refl, subst, All, List, [], ◌∷◌, ◌++◌, length, Bool, true, false, arith, nat_eq, slice_index_or, drop, cond, map, filter}
use Rattle.std.proofs.lemmas.Bool.{eq-eqb, ne_eqb}
use Rattle.std.proofs.lemmas.List.{length-append}
use Rattle.san_base.specs.declared.limits.TheConstants.{MAX_IMPULSES}
use Rattle.san_law.specs.Net as law
use Rattle.san_leaf.specs.Events.{impulse_in, impulses_at}
use Rattle.san_leaf.specs.declared.recorder.Impulse.{Impulse}
use Rattle.san_reward.specs.Running.{Running, with_impulse, with_impulses}
use Rattle.san_core.specs.inner.Impulses.{impulses_from}
use Rattle.san_core.proofs.Counting.{impulses_append, impulses_kept}

-- the impulses from one on
here_or : (event : ℕ) (x : Impulse) (b : Bool) (xs : List Impulse) → b ≡ true → map impulse_in (cond b (x ∷ xs) xs) ≡ impulse_in x ∷ map impulse_in xs
here_or event x true xs e = refl
here_or event x false xs e = absurd cc

past_or : (x : Impulse) (b : Bool) (xs : List Impulse) → b ≡ false → map impulse_in (cond b (x ∷ xs) xs) ≡ map impulse_in xs
past_or x true xs e = absurd cc
past_or x false xs e = refl

pub impulse_here : (xs : List Impulse) (i event : ℕ) (d : Impulse) → i < length xs → (slice_index_or xs i d).event ≡ event → impulses_at event (drop i xs) ≡ impulse_in (slice_index_or xs i d) ∷ impulses_at event (drop (i + 1) xs)
impulse_here xs i event d l e = from xs i d l e ∙ ap (λ (n : ℕ). impulse_in (slice_index_or xs i d) ∷ impulses_at event (drop n xs)) (next i)
  where
    next : (i : ℕ) → suc i ≡ i + 1
    next i = omega arith

    from : (xs : List Impulse) (i : ℕ) (d : Impulse) → i < length xs → (slice_index_or xs i d).event ≡ event → impulses_at event (drop i xs) ≡ impulse_in (slice_index_or xs i d) ∷ impulses_at event (drop (suc i) xs)
    from [] i d l e = absurd (omega (arith, l))
    from (x ∷ xs) zero d l e = here_or event x (nat_eq x.event event) (filter (λ y. nat_eq y.event event) xs) (eq-eqb x.event event e)
    from (x ∷ xs) (suc i) d l e = from xs i d (omega (arith, l)) e

pub impulse_past : (xs : List Impulse) (i event : ℕ) (d : Impulse) → i < length xs → (slice_index_or xs i d).event ≢ event → impulses_at event (drop i xs) ≡ impulses_at event (drop (i + 1) xs)
impulse_past xs i event d l e = from xs i d l e ∙ ap (λ (n : ℕ). impulses_at event (drop n xs)) (next i)
  where
    next : (i : ℕ) → suc i ≡ i + 1
    next i = omega arith

    from : (xs : List Impulse) (i : ℕ) (d : Impulse) → i < length xs → (slice_index_or xs i d).event ≢ event → impulses_at event (drop i xs) ≡ impulses_at event (drop (suc i) xs)
    from [] i d l e = absurd (omega (arith, l))
    from (x ∷ xs) zero d l e = past_or x (nat_eq x.event event) (filter (λ y. nat_eq y.event event) xs) (ne_eqb x.event event e)
    from (x ∷ xs) (suc i) d l e = from xs i d (omega (arith, l)) e

-- what is still to be counted
pub record Counts (was now : Running) (all rest : List law.Impulse) : Type 0 where
  pub rewards : All (λ x. x.reward < length now.spans) rest
  pub few : now.tally.impulses + length rest ≤ MAX_IMPULSES
  pub counted : with_impulses was all ≡ with_impulses now rest

pub one_counted : (was now new : Running) (all rest more : List law.Impulse) (x : law.Impulse) → rest ≡ x ∷ more → new ≡ with_impulse now x.reward x.rated → Counts was now all rest → Counts was new all more
one_counted was now new all rest more x is counted h =
    let rewards : All (λ y. y.reward < length now.spans) (x ∷ more) = subst (λ (ys : List law.Impulse). All (λ (y : law.Impulse). y.reward < length now.spans) ys) is h.rewards in
    let few : length rest ≡ suc (length more) = ap (λ (ys : List law.Impulse). length ys) is in
    let spans : length now.spans ≡ length new.spans = ap (λ (r : Running). length r.spans) (sym counted) in
    let tally : new.tally.impulses ≡ now.tally.impulses + 1 = ap (λ (r : Running). r.tally.impulses) counted in
    record {
      rewards = λ k d l. let y = rewards (suc k) d (omega (arith, l)) in omega (arith, y, spans);
      few = omega (arith, h.few, few, tally);
      counted = h.counted ∙ (ap (with_impulses now) is ∙ ap (λ (r : Running). with_impulses r more) (sym counted));
    }

pub none_counted : (was now new : Running) (all rest more : List law.Impulse) → rest ≡ more → new ≡ now → Counts was now all rest → Counts was new all more
none_counted was now new all rest more is same h =
    subst (λ (ys : List law.Impulse). Counts was new all ys) is (subst (λ (r : Running). Counts was r all rest) (sym same) h)

pub reward_here : (now : Running) (rest more : List law.Impulse) (x : law.Impulse) → rest ≡ x ∷ more → All (λ y. y.reward < length now.spans) rest → x.reward < length now.spans
reward_here now rest more x is h = (subst (λ (ys : List law.Impulse). All (λ (y : law.Impulse). y.reward < length now.spans) ys) is h) 0 x (omega arith)

-- one event's and then the others'
pub event_here : (xs : List Impulse) (i n : ℕ) → i < n → impulses_from i (n - i) xs ≡ impulses_at i xs ++ impulses_from (i + 1) (n - (i + 1)) xs
event_here xs i n l = ap (λ (m : ℕ). impulses_from i m xs) (one_less i n l)
  where
    one_less : (i n : ℕ) → i < n → n - i ≡ suc (n - (i + 1))
    one_less i n l = omega (arith, l)

pub all_left : (P : law.Impulse → Type 0) (xs ys : List law.Impulse) → All P (xs ++ ys) → All P xs
all_left P [] ys h k d l = absurd (omega (arith, l))
all_left P (x ∷ xs) ys h zero d l = h 0 d (omega arith)
all_left P (x ∷ xs) ys h (suc k) d l = all_left P xs ys (λ i e m. h (suc i) e (omega (arith, m))) k d (omega (arith, l))

all_right : (P : law.Impulse → Type 0) (xs ys : List law.Impulse) → All P (xs ++ ys) → All P ys
all_right P [] ys h = h
all_right P (x ∷ xs) ys h = all_right P xs ys (λ k d l. h (suc k) d (omega (arith, l)))

pub event_counted : (was now new : Running) (all rest xs more : List law.Impulse) → rest ≡ xs ++ more → new ≡ with_impulses now xs → Counts was now all rest → Counts was new all more
event_counted was now new all rest xs more is counted h =
    let rewards : All (λ y. y.reward < length now.spans) (xs ++ more) = subst (λ (ys : List law.Impulse). All (λ (y : law.Impulse). y.reward < length now.spans) ys) is h.rewards in
    let long : length rest ≡ length xs + length more = ap (λ (ys : List law.Impulse). length ys) is ∙ length-append xs more in
    let spans : length now.spans ≡ length new.spans = sym (ap (λ (r : Running). length r.spans) (counted ∙ impulses_kept now xs)) in
    let tally : new.tally.impulses ≡ now.tally.impulses + length xs = ap (λ (r : Running). r.tally.impulses) counted ∙ many now xs in
    record {
      rewards = λ k d l. let y = all_right (λ (y : law.Impulse). y.reward < length now.spans) xs more rewards k d l in omega (arith, y, spans);
      few = omega (arith, h.few, long, tally);
      counted = h.counted ∙ (ap (with_impulses now) is ∙ (impulses_append now xs more ∙ ap (λ (r : Running). with_impulses r more) (sym counted)));
    }
  where
    many : (t : Running) (xs : List law.Impulse) → (with_impulses t xs).tally.impulses ≡ t.tally.impulses + length xs
    many t [] = omega arith
    many t (x ∷ xs) = let m = many (with_impulse t x.reward x.rated) xs in omega (arith, m)
