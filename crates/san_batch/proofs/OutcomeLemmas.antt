-- What runs come to, one behind another and shared out.
use Rattle.std.proofs.Common.{ℕ, zero, suc, ◌+◌, ◌≤◌, ◌<◌, ◌≡◌, ◌∙◌, ap, sym, refl, subst, arith, List, [], ◌∷◌, ◌++◌, length, map, Bool, Option, Some, None, slice_index_or}
use Rattle.std.specs.Prelude.{ℤ}
use Rattle.std.specs.Option.{option_map}
use Rattle.san_base.specs.declared.ending.Ending.{Ending}
use Rattle.san_base.specs.declared.limits.Limits.{Limits}
use Rattle.san_law.specs.State.{opening_state}
use Rattle.san_law.specs.Trajectory.{Trajectory, trajectory}
use Rattle.san_net.specs.Network.{Network}
use Rattle.san_net.specs.declared.part.Reward.{Reward}
use Rattle.san_plain.specs.Measures.{AreSmallWorths, IsSmallSum, Measured, measured_by, measured_of, worths_from}
use Rattle.san_plain.specs.Reports.{Opened, net_by, worth_at}
use Rattle.san_reward.specs.declared.worth.Worth.{Worth}
use Rattle.san_reward.specs.declared.worth.Worth.TheVariants as worth
use Rattle.san_summary.specs.Batches.{AreSmall, CanAdd, CanJoin, IsSmallNumber, Outcome, Sums, sums_of}
use Rattle.san_summary.specs.declared.batch.TheConstants.{MAX_RUNS}
use Rattle.san_batch.specs.Outcomes.{batch_of, number_of, outcome_of, outcomes_of}
use Rattle.san_batch.specs.inner.Shares.{IsBatch}

outcomes_add : (n : Network) (limits : Limits) (seed x y : ℕ) → outcomes_of n limits seed (x + y) ≡ outcomes_of n limits seed x ++ outcomes_of n limits (seed + x) y
outcomes_add n limits seed zero y =
    let e : zero + y ≡ y = omega arith in
    let f : seed ≡ seed + 0 = omega arith in
    ap (outcomes_of n limits seed) e ∙ ap (λ (s : ℕ). outcomes_of n limits s y) f
outcomes_add n limits seed (suc x) y =
    let e : suc x + y ≡ suc (x + y) = omega arith in
    let f : suc seed + x ≡ seed + suc x = omega arith in
    ap (outcomes_of n limits seed) e ∙ ap (λ (os : List Outcome). outcome_of n limits seed ∷ os) (outcomes_add n limits (suc seed) x y ∙ ap (λ (s : ℕ). outcomes_of n limits (suc seed) x ++ outcomes_of n limits s y) f)

outcomes_long : (n : Network) (limits : Limits) (seed x : ℕ) → length (outcomes_of n limits seed x) ≡ x
outcomes_long n limits seed zero = refl
outcomes_long n limits seed (suc x) = ap suc (outcomes_long n limits (suc seed) x)

small_append : (os ps : List Outcome) → AreSmall os → AreSmall ps → AreSmall (os ++ ps)
small_append [] ps h k = k
small_append (o ∷ os) ps h k = (h.0, small_append os ps h.1 k)

-- the numbers of small worths are small
number_small : (w : Option Worth) → IsSmallSum w → IsSmallNumber (number_of w)
number_small (Some (worth.Sum x)) h = h
number_small (Some (worth.Mean x ticks)) h = h
number_small (Some worth.Fault) h = tt
number_small (Some worth.Beyond) h = tt
number_small None h = tt

numbers_small : (ws : List (Option Worth)) → AreSmallWorths ws → (r : ℕ) → IsSmallNumber (slice_index_or (map number_of ws) r None)
numbers_small [] h r = tt
numbers_small (w ∷ ws) h zero = number_small w (h 0)
numbers_small (w ∷ ws) h (suc r) = numbers_small ws (λ k. h (suc k)) r

pub numbers_are_small : (ws : List (Option Worth)) (numbers : List (Option ℤ)) → AreSmallWorths ws → numbers ≡ map number_of ws → (r : ℕ) → IsSmallNumber (slice_index_or numbers r None)
numbers_are_small ws numbers h is r = subst (λ (xs : List (Option ℤ)). IsSmallNumber (slice_index_or xs r None)) (sym is) (numbers_small ws h r)

-- every reward has a worth
worths_long : (xs : List Reward) (r : ℕ) (of : ℕ → Option Worth) → length (worths_from xs r of) ≡ length xs
worths_long [] r of = refl
worths_long (x ∷ xs) r of = ap suc (worths_long xs (suc r) of)

pub worths_sized : (o : Opened) (e : Ending) (ws : List (Option Worth)) → measured_of o ≡ Some (record { ending = e; worths = ws }) → length ws ≡ length o.network.rewards
worths_sized o e ws is = by_run (trajectory (net_by o) (opening_state (net_by o))) is
  where
    same : (a b : Measured) → (let x : Option Measured = Some a in x) ≡ Some b → a ≡ b
    same a b h = cc

    by_run : (t : Option Trajectory) → option_map (measured_by o.network (net_by o)) t ≡ Some (record { ending = e; worths = ws }) → length ws ≡ length o.network.rewards
    by_run None h = absurd cc
    by_run (Some t) h =
        ap (λ (m : Measured). length m.worths) (sym (same (measured_by o.network (net_by o) t) (record { ending = e; worths = ws }) h))
        ∙ worths_long o.network.rewards 0 (worth_at (net_by o) t.events t.ending)

-- one run more
pub no_runs : (n : Network) (limits : Limits) (seed : ℕ) (b : Sums) → b ≡ sums_of (length n.rewards) [] → IsBatch n limits seed 0 b
no_runs n limits seed b is = record { sums = is; small = tt }

pub can_add : (n : Network) (limits : Limits) (seed k : ℕ) (b : Sums) (numbers : List (Option ℤ)) → IsBatch n limits seed k b → k < MAX_RUNS → length numbers ≡ length n.rewards → ((r : ℕ) → IsSmallNumber (slice_index_or numbers r None)) → CanAdd b numbers
can_add n limits seed k b numbers h few sized small =
    let long = outcomes_long n limits seed k in
    record { many = length n.rewards; outcomes = outcomes_of n limits seed k; is = h.sums; few = omega (arith, long, few); small = h.small; sized = sized; numbers_small = small }

-- what a batch is with a run more
abbrev pub Adds : Sums → Sums → Bool → List (Option ℤ) → Type 0
Adds old new stopped numbers = (many : ℕ) (os : List Outcome) → old ≡ sums_of many os → new ≡ sums_of many (os ++ record { stopped = stopped; numbers = numbers } ∷ [])

pub run_after : (n : Network) (limits : Limits) (seed k : ℕ) (old new : Sums) (stopped : Bool) (numbers : List (Option ℤ)) → IsBatch n limits seed k old → Adds old new stopped numbers
    → outcome_of n limits (seed + k) ≡ record { stopped = stopped; numbers = numbers } → ((r : ℕ) → IsSmallNumber (slice_index_or numbers r None)) → IsBatch n limits seed (k + 1) new
run_after n limits seed k old new stopped numbers h adds is small =
    let all : outcomes_of n limits seed k ++ record { stopped = stopped; numbers = numbers } ∷ [] ≡ outcomes_of n limits seed (k + 1) =
    ap (λ (o : Outcome). outcomes_of n limits seed k ++ o ∷ []) (sym is) ∙ sym (outcomes_add n limits seed k 1) in
    record {
      sums = adds (length n.rewards) (outcomes_of n limits seed k) h.sums ∙ ap (sums_of (length n.rewards)) all;
      small = subst AreSmall all (small_append (outcomes_of n limits seed k) (record { stopped = stopped; numbers = numbers } ∷ []) h.small (small, tt));
    }

-- runs behind others
abbrev pub Joins : Sums → Sums → Sums → Type 0
Joins old other new = (many : ℕ) (os ps : List Outcome) → old ≡ sums_of many os → other ≡ sums_of many ps → new ≡ sums_of many (os ++ ps)

pub can_join : (n : Network) (limits : Limits) (seed x y : ℕ) (a b : Sums) → IsBatch n limits seed x a → IsBatch n limits (seed + x) y b → x + y ≤ MAX_RUNS → CanJoin a b
can_join n limits seed x y a b h k few =
    let long = outcomes_long n limits seed x in
    let more = outcomes_long n limits (seed + x) y in
    record { many = length n.rewards; first = outcomes_of n limits seed x; second = outcomes_of n limits (seed + x) y; first_is = h.sums; second_is = k.sums; few = omega (arith, long, more, few); first_small = h.small; second_small = k.small }

pub runs_joined : (n : Network) (limits : Limits) (seed x y : ℕ) (a b new : Sums) → IsBatch n limits seed x a → IsBatch n limits (seed + x) y b → Joins a b new → IsBatch n limits seed (x + y) new
runs_joined n limits seed x y a b new h k joined = record {
  sums = joined (length n.rewards) (outcomes_of n limits seed x) (outcomes_of n limits (seed + x) y) h.sums k.sums ∙ ap (sums_of (length n.rewards)) (sym (outcomes_add n limits seed x y));
  small = subst AreSmall (sym (outcomes_add n limits seed x y)) (small_append (outcomes_of n limits seed x) (outcomes_of n limits (seed + x) y) h.small k.small);
}

pub whole : (n : Network) (limits : Limits) (seed k runs : ℕ) (b : Sums) → k ≡ runs → IsBatch n limits seed k b → b ≡ batch_of n limits seed runs
whole n limits seed k runs b all h = h.sums ∙ ap (batch_of n limits seed) all
