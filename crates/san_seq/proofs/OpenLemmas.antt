-- A run begins at the law's opening state.
use Rattle.std.proofs.Common.{ℕ, zero, suc, ◌+◌, ◌<◌, ◌≤◌, ◌≡◌, ◌∙◌, ap, sym, refl, subst, arith, List, [], ◌∷◌, length, map, Option, Some, None, slice_index_or}
use Rattle.std.specs.Prelude.{slice_get}
use Rattle.std.proofs.lemmas.List.{length-map}
use Rattle.san_base.specs.declared.limits.Limits.{Limits}
use Rattle.san_law.specs.Activity as leaf
use Rattle.san_law.specs.Net as net
use Rattle.san_law.specs.Network.{Limits as Bounds}
use Rattle.san_law.specs.State.{State, blank_row, blank_rows, opening_state, repeated}
use Rattle.san_net.specs.Leaf.{leaf_of}
use Rattle.san_net.specs.Network.{Network, net_of}
use Rattle.san_net.specs.declared.part.Part.{Part}
use Rattle.san_draw.specs.Key.{draw_of}
use Rattle.san_seq.specs.FlatRun.{On, Run, opening}
use Rattle.san_seq.specs.inner.Openings.{rows_of}
use Rattle.san_net.specs.Runs.{limits_in}
use Rattle.san_seq.specs.inner.Rows.{IsRowOf, row_at}
use Rattle.san_seq.specs.inner.Running.{IsRunning}
use Rattle.san_net.proofs.PartLemmas.{part_is, activities_long}

blanks_from : (any : net.Net) (ps : List Part) (j : ℕ) → ((i : ℕ) (p : Part) → slice_get ps i ≡ Some p → any.acts (j + i) ≡ length p.atomic.acts)
    → blank_rows any j (map (λ (q : leaf.Part). q.slots) (map leaf_of ps)) ≡ rows_of ps
blanks_from any [] j acts = refl
blanks_from any (p ∷ ps) j acts =
    let here : any.acts j ≡ length p.atomic.acts = ap any.acts (omega arith) ∙ acts 0 p refl in
    ap (λ (k : ℕ). blank_row k ∷ blank_rows any (suc j) (map (λ (q : leaf.Part). q.slots) (map leaf_of ps))) here
    ∙ ap (λ (rs : List net.Row). blank_row (length p.atomic.acts) ∷ rs) (blanks_from any ps (suc j) (λ i q is. ap any.acts (omega arith) ∙ acts (suc i) q is))

acts_at : (n : Network) (draw : ℕ → ℕ → ℕ) (bounds : Bounds) (i : ℕ) (p : Part) → slice_get n.parts i ≡ Some p → (net_of n draw bounds).acts i ≡ length p.atomic.acts
acts_at n draw bounds i p is = ap (λ (q : leaf.Part). length q.activities) (part_is n i p is) ∙ activities_long p.atomic.impulses 0 p.atomic.acts

pub rows_are : (n : Network) (draw : ℕ → ℕ → ℕ) (bounds : Bounds) → rows_of n.parts ≡ (opening_state (net_of n draw bounds)).rows
rows_are n draw bounds = sym (blanks_from (net_of n draw bounds) n.parts 0 (λ i p is. ap (net_of n draw bounds).acts (omega arith) ∙ acts_at n draw bounds i p is))

length_repeated : {A : Type 0} (k : ℕ) (a : A) → length (repeated k a) ≡ k
length_repeated zero a = refl
length_repeated (suc k) a = ap suc (length_repeated k a)

all_zero : (k : ℕ) (i d : ℕ) → i < length {A = ℕ} (repeated {A = ℕ} k 0) → slice_index_or {A = ℕ} (repeated {A = ℕ} k 0) i d ≤ 0
all_zero zero i d h = absurd (omega (arith, h))
all_zero (suc k) zero d h = omega arith
all_zero (suc k) (suc i) d h = all_zero k i d (omega (arith, h))

fits : (ps : List Part) (j : ℕ) (p : Part) → slice_get ps j ≡ Some p → IsRowOf p (row_at (rows_of ps) j)
fits [] j p is = absurd cc
fits (q ∷ qs) zero p is =
    let long : length q.atomic.acts ≡ length p.atomic.acts = ap (λ (x : Part). length x.atomic.acts) (same q p is) in
    record { timers = length_repeated (length q.atomic.acts) None ∙ long; delays = length_repeated (length q.atomic.acts) 0 ∙ long; cases = length_repeated (length q.atomic.acts) 0 ∙ long }
  where
    same : (x y : Part) → (let o : Option Part = Some x in o) ≡ Some y → x ≡ y
    same x y e = cc
fits (q ∷ qs) (suc j) p is = fits qs j p is

no_delays : (ps : List Part) (j i d : ℕ) → i < length (row_at (rows_of ps) j).delays → slice_index_or (row_at (rows_of ps) j).delays i d ≤ 0
no_delays [] j i d h = absurd (omega (arith, h))
no_delays (q ∷ qs) zero i d h = all_zero (length q.atomic.acts) i d h
no_delays (q ∷ qs) (suc j) i d h = no_delays qs j i d h

no_cases : (ps : List Part) (j i d : ℕ) → i < length (row_at (rows_of ps) j).cases → slice_index_or (row_at (rows_of ps) j).cases i d ≤ 0
no_cases [] j i d h = absurd (omega (arith, h))
no_cases (q ∷ qs) zero i d h = all_zero (length q.atomic.acts) i d h
no_cases (q ∷ qs) (suc j) i d h = no_cases qs j i d h

-- the first state, by the parts
abbrev pub first_state : Network → State
first_state n = record { time = 0; marking = n.initial; stable = n.initial; rows = rows_of n.parts; burst = 0; last = None; count = 0 }

pub begins : (n : Network) (limits : Limits) → IsRunning n limits (first_state n)
begins n limits = record {
  rows = record { each = length-map n.parts (λ (p : Part). blank_row (length p.atomic.acts)); fit = fits n.parts };
  delays = no_delays n.parts;
  cases = no_cases n.parts;
  marking = refl;
  stable = refl;
  time = omega arith;
  burst = omega arith;
  count = omega arith;
  last = λ j e. absurd cc;
}

pub state_is : (n : Network) (draw : ℕ → ℕ → ℕ) (bounds : Bounds) (m stable : List ℕ) (rows : List net.Row) → m ≡ n.initial → stable ≡ n.initial → rows ≡ rows_of n.parts
    → (let s : State = record { time = 0; marking = m; stable = stable; rows = rows; burst = 0; last = None; count = 0 } in s) ≡ opening_state (net_of n draw bounds)
state_is n draw bounds m stable rows a b c =
    ap (λ (x : List ℕ). (let s : State = record { time = 0; marking = x; stable = stable; rows = rows; burst = 0; last = None; count = 0 } in s)) a
    ∙ ap (λ (x : List ℕ). (let s : State = record { time = 0; marking = n.initial; stable = x; rows = rows; burst = 0; last = None; count = 0 } in s)) b
    ∙ ap (λ (x : List net.Row). (let s : State = record { time = 0; marking = n.initial; stable = n.initial; rows = x; burst = 0; last = None; count = 0 } in s)) (c ∙ rows_are n draw bounds)

pub state_runs : (n : Network) (limits : Limits) (m stable : List ℕ) (rows : List net.Row) → m ≡ n.initial → stable ≡ n.initial → rows ≡ rows_of n.parts
    → IsRunning n limits (let s : State = record { time = 0; marking = m; stable = stable; rows = rows; burst = 0; last = None; count = 0 } in s)
state_runs n limits m stable rows a b c =
    subst (IsRunning n limits)
    (sym (ap (λ (x : List ℕ). (let s : State = record { time = 0; marking = x; stable = stable; rows = rows; burst = 0; last = None; count = 0 } in s)) a
    ∙ ap (λ (x : List ℕ). (let s : State = record { time = 0; marking = n.initial; stable = x; rows = rows; burst = 0; last = None; count = 0 } in s)) b
    ∙ ap (λ (x : List net.Row). (let s : State = record { time = 0; marking = n.initial; stable = n.initial; rows = x; burst = 0; last = None; count = 0 } in s)) c))
    (begins n limits)

-- a run with this seed at this state
pub begun_is : (n : Network) (limits : Limits) (was seed : ℕ) (s : State) → was ≡ seed → s ≡ opening_state (net_of n (draw_of seed) (limits_in limits))
    → (let r : Run = record { network = n; seed = was; limits = limits; run_phase = On s } in r) ≡ opening n seed limits
begun_is n limits was seed s a b =
    ap (λ (x : ℕ). (let r : Run = record { network = n; seed = x; limits = limits; run_phase = On s } in r)) a
    ∙ ap (λ (x : State). (let r : Run = record { network = n; seed = seed; limits = limits; run_phase = On x } in r)) b
