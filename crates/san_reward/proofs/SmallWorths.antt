-- The worths of a network's rewards are small.
use Rattle.std.proofs.Common.{ℕ, zero, suc, ◌+◌, ◌-◌, ◌*◌, ◌<◌, ◌≤◌, ◌≡◌, refl, List, [], ◌∷◌, arith, Option, Some, None, Result, Ok, Err, nat_eq, nat_le, nat_lt, Bool, true, false, length, map, slice_index_or}
use Rattle.std.specs.Prelude.{ℤ, pos, negsuc, unsigned_abs, All, if◌then◌else◌, slice_get}
use Rattle.std.proofs.lemmas.Bool.{leb-true, ltb-true}
use Rattle.std.proofs.lemmas.List.{length-map}
use Rattle.san_base.specs.Rated.{in_bounds, rated_by}
use Rattle.san_base.specs.declared.ending.Trap.{Trap}
use Rattle.san_base.specs.declared.limits.TheConstants.{MAX_EVENTS, MAX_EVENT_IMPULSES, MAX_HORIZON, MAX_LEAVES, MAX_RATED, MAX_WORTH}
use Rattle.san_expr.specs.Value.{value_of}
use Rattle.san_law.specs.Net.{Impulse, Net, Rated, Slot, Span}
use Rattle.san_law.specs.Network.{Limits, no_part}
use Rattle.san_law.specs.Reward.{Beyond, Mean, Sum, event_sum, events_sum, impulses_sum, is_within, leaf_sum, marked, marked_sum, no_span, plus, rates_from, rates_sum, reward_sum, span_of, sum_ticks, sum_worth, worth, zero_sum}
use Rattle.san_law.specs.Reward as law
use Rattle.san_law.specs.State.{State, gather, place_of}
use Rattle.san_law.specs.Step.{Event}
use Rattle.san_law.specs.Tally.{impulses_in}
use Rattle.san_net.specs.Laid.{IsNetwork}
use Rattle.san_net.specs.Leaf.{leaf_of, rate_in}
use Rattle.san_net.specs.Network.{Network, net_of}
use Rattle.san_net.specs.declared.atomic.RateTerm.{RateTerm}
use Rattle.san_net.specs.declared.part.Part.{Part}
use Rattle.san_reward.specs.Smallness.{IsAtMost}
use Rattle.san_reward.specs.inner.Present.{terms_in}
use Rattle.san_reward.specs.Smallness.{AreRated, IsSmallWorth}
use Rattle.san_reward.proofs.Making.{few_in, spans_low}
use Rattle.san_reward.proofs.Smallness.{sum_at_most, wider}

-- a term's value
bounded : (x : ℤ) → IsAtMost MAX_RATED (in_bounds x)
bounded (pos n) = by_test (nat_le n MAX_RATED) refl
  where
    by_test : (b : Bool) → nat_le n MAX_RATED ≡ b → IsAtMost MAX_RATED (if b then Some (pos n) else None)
    by_test true e = leb-true n MAX_RATED e
    by_test false e = tt
bounded (negsuc n) = by_test (nat_lt n MAX_RATED) refl
  where
    by_test : (b : Bool) → nat_lt n MAX_RATED ≡ b → IsAtMost MAX_RATED (if b then Some (negsuc n) else None)
    by_test true e = omega (arith, ltb-true n MAX_RATED e)
    by_test false e = tt

pub rated_small : (r : Result ℤ Trap) → IsAtMost MAX_RATED (rated_by r)
rated_small (Ok x) = bounded x
rated_small (Err trap) = tt

-- the rates of a leaf
one_more : (P : Rated → Type 0) (w : Rated) (ws : List Rated) → P w → All P ws → All P (w ∷ ws)
one_more P w ws h all = each
  where
    each : All P (w ∷ ws)
    each zero d l = h
    each (suc k) d l = all k d (omega (arith, l))

leaf_rated : (terms : List RateTerm) (v : List ℕ) → All (IsAtMost MAX_RATED) (map (rate_in v) terms)
leaf_rated [] v = λ k d l. absurd (omega (arith, l))
leaf_rated (t ∷ ts) v = one_more (IsAtMost MAX_RATED) (rate_in v t) (map (rate_in v) ts) (rated_small (value_of t.expr v).answer) (leaf_rated ts v)

rated_at : (parts : List Part) (j : ℕ) (v : List ℕ) → All (IsAtMost MAX_RATED) ((slice_index_or (map leaf_of parts) j no_part).rates v)
rated_at [] j v = λ k d l. absurd (omega (arith, l))
rated_at (p ∷ ps) zero v = leaf_rated p.atomic.rates v
rated_at (p ∷ ps) (suc j) v = rated_at ps j v

-- a reward's terms in a leaf
few_at : (r : ℕ) (parts : List Part) → ((k : ℕ) (p : Part) → slice_get parts k ≡ Some p → terms_in r (map (λ t. t.reward) p.atomic.rates) ≤ 16) → (j : ℕ) → terms_in r (slice_index_or (map leaf_of parts) j no_part).terms ≤ 16
few_at r [] h j = omega arith
few_at r (p ∷ ps) h zero = h 0 p refl
few_at r (p ∷ ps) h (suc j) = few_at r ps (λ k q e. h (suc k) q e) j

one_small : (b : Bool) (w : Rated) → IsAtMost MAX_RATED w → IsAtMost ((if b then 1 else 0) * MAX_RATED) (if b then w else zero_sum)
one_small true None h = tt
one_small true (Some w) h = omega (arith, h)
one_small false w h = omega arith

leaf_small : (r : ℕ) (qs : List ℕ) (ws : List Rated) → All (IsAtMost MAX_RATED) ws → IsAtMost (terms_in r qs * MAX_RATED) (leaf_sum r qs ws)
leaf_small r [] ws h = omega arith
leaf_small r (q ∷ qs) [] h = omega arith
leaf_small r (q ∷ qs) (w ∷ ws) h =
    let one : ℕ = if nat_eq q r then 1 else 0 in
    wider (one * MAX_RATED + terms_in r qs * MAX_RATED) (terms_in r (q ∷ qs) * MAX_RATED) (leaf_sum r (q ∷ qs) (w ∷ ws)) (omega arith)
    (sum_at_most (one * MAX_RATED) (terms_in r qs * MAX_RATED) (if nat_eq q r then w else zero_sum) (leaf_sum r qs ws) (one_small (nat_eq q r) w (h 0 w (omega arith))) (leaf_small r qs ws (λ k d l. h (suc k) d (omega (arith, l)))))

-- the sums over ticks, and over events
ticks_small : (f : ℕ → Rated) (b : ℕ) → ((t : ℕ) → IsAtMost b (f t)) → (a n : ℕ) → IsAtMost (n * b) (sum_ticks f a n)
ticks_small f b h a zero = omega arith
ticks_small f b h a (suc n) =
    let more : b + n * b ≡ suc n * b = omega arith in
    wider (b + n * b) (suc n * b) (sum_ticks f a (suc n)) (omega (arith, more)) (sum_at_most b (n * b) (f a) (sum_ticks f (suc a) n) (h a) (ticks_small f b h (suc a) n))

impulses_small : (r : ℕ) (xs : List Impulse) → All (λ i. IsAtMost MAX_RATED i.rated) xs → IsAtMost (length xs * MAX_RATED) (impulses_sum r xs)
impulses_small r [] h = omega arith
impulses_small r (x ∷ xs) h =
    let one : ℕ = if nat_eq x.reward r then 1 else 0 in
    wider (one * MAX_RATED + length xs * MAX_RATED) (length (x ∷ xs) * MAX_RATED) (impulses_sum r (x ∷ xs)) (most (nat_eq x.reward r))
    (sum_at_most (one * MAX_RATED) (length xs * MAX_RATED) (if nat_eq x.reward r then x.rated else zero_sum) (impulses_sum r xs) (one_small (nat_eq x.reward r) x.rated (h 0 x (omega arith))) (impulses_small r xs (λ k d l. h (suc k) d (omega (arith, l)))))
  where
    most : (b : Bool) → (if b then 1 else 0) * MAX_RATED + length xs * MAX_RATED ≤ length (x ∷ xs) * MAX_RATED
    most true = omega arith
    most false = omega arith

module _ (net : Net) (r : ℕ) where
  event_small : (e : Event) → All (λ i. IsAtMost MAX_RATED i.rated) e.impulses → IsAtMost (length e.impulses * MAX_RATED) (event_sum net r e)
  event_small e h = by_time (is_within (span_of net r) e.time)
    where
      by_time : (b : Bool) → IsAtMost (length e.impulses * MAX_RATED) (if b then impulses_sum r e.impulses else zero_sum)
      by_time true = impulses_small r e.impulses h
      by_time false = omega arith

  events_small : (es : List Event) → AreRated es → IsAtMost (impulses_in es * MAX_RATED) (events_sum net r es)
  events_small [] h = omega arith
  events_small (e ∷ es) h =
      wider (length e.impulses * MAX_RATED + impulses_in es * MAX_RATED) (impulses_in (e ∷ es) * MAX_RATED) (events_sum net r (e ∷ es)) (omega arith)
      (sum_at_most (length e.impulses * MAX_RATED) (impulses_in es * MAX_RATED) (event_sum net r e) (events_sum net r es) (event_small e h.0) (events_small es h.1))

  module _ (few : (j : ℕ) → terms_in r (net.terms j) ≤ 16) (rated : (j : ℕ) (v : List ℕ) → All (IsAtMost MAX_RATED) (net.rates j v)) where
    rates_small : (i : ℕ) (ps : List (List Slot)) (m : List ℕ) → IsAtMost (length ps * (16 * MAX_RATED)) (rates_sum net r i (rates_from net i ps m))
    rates_small i [] m = omega arith
    rates_small i (p ∷ ps) m =
        let one = few i in
        let ws = net.rates i (gather (map place_of p) m) in
        let rest = rates_from net (suc i) ps m in
        wider (terms_in r (net.terms i) * MAX_RATED + length ps * (16 * MAX_RATED)) (length (p ∷ ps) * (16 * MAX_RATED)) (rates_sum net r i (ws ∷ rest)) (omega (arith, one))
        (sum_at_most (terms_in r (net.terms i) * MAX_RATED) (length ps * (16 * MAX_RATED)) (leaf_sum r (net.terms i) ws) (rates_sum net r (suc i) rest) (leaf_small r (net.terms i) ws (rated i (gather (map place_of p) m))) (rates_small (suc i) ps m))

    sum_small : (opening : State) (es : List Event) → length net.parts ≤ MAX_LEAVES → (span_of net r).to ≤ MAX_HORIZON + 1 → impulses_in es ≤ MAX_EVENTS * MAX_EVENT_IMPULSES → AreRated es → IsAtMost MAX_WORTH (reward_sum net r opening es)
    sum_small opening es leaves low given h =
        let s = span_of net r in
        let n = s.to - s.from in
        let f = marked_sum net r opening es in
        let tick : (t : ℕ) → IsAtMost (MAX_LEAVES * (16 * MAX_RATED)) (f t) =
        λ t. wider (length net.parts * (16 * MAX_RATED)) (MAX_LEAVES * (16 * MAX_RATED)) (f t) (omega (arith, leaves)) (rates_small 0 net.parts (marked net opening es t)) in
        wider (n * (MAX_LEAVES * (16 * MAX_RATED)) + impulses_in es * MAX_RATED) MAX_WORTH (reward_sum net r opening es) (omega (arith, low, given))
        (sum_at_most (n * (MAX_LEAVES * (16 * MAX_RATED))) (impulses_in es * MAX_RATED) (sum_ticks f s.from n) (events_sum net r es) (ticks_small f (MAX_LEAVES * (16 * MAX_RATED)) tick s.from n) (events_small es h))

-- what a small sum is worth
sum_worth_small : (s : Span) (w : Rated) → IsAtMost MAX_WORTH w → IsSmallWorth (sum_worth s w)
sum_worth_small s None h = tt
sum_worth_small s (Some x) h = by_mean s.mean
  where
    by_mean : (b : Bool) → IsSmallWorth (if b then Mean x (s.to - s.from) else Sum x)
    by_mean true = h
    by_mean false = h

worth_by_small : (horizon : ℕ) (s : Span) (w : Rated) → IsAtMost MAX_WORTH w → IsSmallWorth (law.worth_by horizon s w)
worth_by_small horizon s w h = by_end (nat_lt (horizon + 1) s.to)
  where
    by_end : (b : Bool) → IsSmallWorth (if b then Beyond else sum_worth s w)
    by_end true = tt
    by_end false = sum_worth_small s w h

span_small : (ss : List Span) (r : ℕ) → All (λ s. s.to ≤ MAX_HORIZON + 1) ss → (slice_index_or ss r no_span).to ≤ MAX_HORIZON + 1
span_small [] r h = omega arith
span_small (s ∷ ss) zero h = h 0 no_span (omega arith)
span_small (s ∷ ss) (suc r) h = span_small ss r (λ k d l. h (suc k) d (omega (arith, l)))

pub small_worth : (n : Network) (draw : ℕ → ℕ → ℕ) (limits : Limits) (opening : State) (es : List Event) (r : ℕ) → IsNetwork n → impulses_in es ≤ MAX_EVENTS * MAX_EVENT_IMPULSES → AreRated es → IsSmallWorth (worth (net_of n draw limits) r opening es)
small_worth n draw limits opening es r is given h =
    let net = net_of n draw limits in
    let few = few_at r n.parts (λ k p e. (let a = (is.accepted k p e).terms r in let b = few_in r (map (λ t. t.reward) p.atomic.rates) (map (λ t. t.reward) p.atomic.impulses) in omega (arith, a, b))) in
    let many : length net.parts ≤ MAX_LEAVES = let leaves = is.small.leaves in omega (arith, leaves, length-map n.parts leaf_of, length-map (map leaf_of n.parts) (λ p. p.slots)) in
    worth_by_small net.horizon (span_of net r) (reward_sum net r opening es)
    (sum_small net r few (rated_at n.parts) opening es many (span_small net.spans r (spans_low n.rewards is.rewarded.spans)) given h)
