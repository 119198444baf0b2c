-- What a tally knows and has counted.
use Rattle.std.specs.Prelude.{ℕ, ◌+◌, ◌*◌, ◌^◌, ◌≤◌, ◌<◌, ◌≡◌, All, List, [], ◌∷◌, map, replicate, length, slice_index_or, slice_set}
use Rattle.san_law.specs.Net.{Impulse, Net, Rated, Span, Nothing, Fresh}
use Rattle.san_law.specs.Reward.{is_within, plus, span_of, zero_sum}
use Rattle.san_law.specs.Tally.{Tally, sum_of, tally_after}
use Rattle.san_base.specs.declared.ending.Trap.TheVariants.{Arith}
use Rattle.std.specs.Prelude.{Err, Some, false, pos, if◌then◌else◌}
use Rattle.san_law.specs.State.{gather}
use Rattle.san_net.specs.Laid.{places_of}
use Rattle.san_net.specs.Leaf.{rate_in}
use Rattle.san_net.specs.Network.{Network, span_in}
use Rattle.san_net.specs.declared.part.Part.{Part}
use Rattle.san_net.specs.declared.part.Span as reward

-- the horizon, the present time, the rewards' intervals, the rewards of each leaf's rate terms, and what was counted
pub record Running : Type 0 where
  pub horizon : ℕ
  pub time : ℕ
  pub spans : List Span
  pub terms : List (List ℕ)
  pub tally : Tally

abbrev pub running_of : ℕ → ℕ → ℕ → List reward.Span → List (List ℕ) → List (List Rated) → List Rated → Running
running_of horizon time impulses spans terms rates sums = record { horizon = horizon; time = time; spans = map span_in spans; terms = terms; tally = record { rates = rates; sums = sums; impulses = impulses } }

-- all that a tally asks of its network: intervals, terms and horizon; nothing else of it matters
abbrev pub net_in : Running → Net
net_in t = record {
  parts = [];
  acts = λ j. 0;
  shared = 0;
  initial = [];
  first = λ j v. Nothing;
  done = λ j k l. Err Arith;
  renewed = λ j time seen l. Fresh l.row;
  paired = λ j. false;
  rates = λ j v. [];
  terms = λ j. slice_index_or t.terms j [];
  spans = t.spans;
  horizon = t.horizon;
  burst = 0;
  limit = 0;
}

-- a network whose rewards a tally counts
pub record IsOf (net : Net) (t : Running) : Type 0 where
  pub spans : net.spans ≡ t.spans
  pub terms : (j : ℕ) → net.terms j ≡ slice_index_or t.terms j []
  pub horizon : net.horizon ≡ t.horizon

abbrev pub terms_in : Part → List ℕ
terms_in p = map (λ t. t.reward) p.atomic.rates

-- the values of a leaf's rate terms in a marking, as they are counted, and those of all leaves
abbrev pub rates_of : List ℕ → Part → List Rated
rates_of marking p = map (rate_in (gather (places_of p) marking)) p.atomic.rates

abbrev pub rates_in : Network → List ℕ → List (List Rated)
rates_in n marking = map (rates_of marking) n.parts

abbrev pub no_rates : Part → List Rated
no_rates p = replicate (length p.atomic.rates) zero_sum

-- at time 0, where each rate is 0 and nothing was counted
abbrev pub opened : Network → ℕ → Running
opened n horizon = record {
  horizon = horizon;
  time = 0;
  spans = map (λ r. span_in r.span) n.rewards;
  terms = map terms_in n.parts;
  tally = record { rates = map no_rates n.parts; sums = replicate (length n.rewards) zero_sum; impulses = 0 };
}

-- the present rates counted for the ticks before a time
abbrev pub advanced : Running → ℕ → Running
advanced t to = record t { time = to; tally = tally_after (net_in t) t.tally t.time to [] }

-- a leaf's rates, one of them set
abbrev pub rates_with : List (List Rated) → ℕ → ℕ → Rated → List (List Rated)
rates_with rates j k w = slice_set rates j (slice_set (slice_index_or rates j []) k w)

abbrev pub with_rate : Running → ℕ → ℕ → Rated → Running
with_rate t j k w = record t { tally = record { rates = rates_with t.tally.rates j k w; sums = t.tally.sums; impulses = t.tally.impulses } }

-- another list of a leaf's rates, and other lists of all leaves' rates
abbrev pub with_leaf_rates : Running → ℕ → List Rated → Running
with_leaf_rates t j ws = record t { tally = record { rates = slice_set t.tally.rates j ws; sums = t.tally.sums; impulses = t.tally.impulses } }

abbrev pub with_all_rates : Running → List (List Rated) → Running
with_all_rates t rates = record t { tally = record { rates = rates; sums = t.tally.sums; impulses = t.tally.impulses } }

-- what a reward counts at a time, which is nothing outside of its interval
abbrev pub counted_at : Span → ℕ → Rated → Rated
counted_at s time w = if is_within s time then w else Some (pos 0)

-- an impulse at the present time, counted where its reward's interval has this time
abbrev pub with_impulse : Running → ℕ → Rated → Running
with_impulse t r w = record t {
  tally = record {
    rates = t.tally.rates;
    sums = slice_set t.tally.sums r (plus (sum_of t.tally r) (counted_at (span_of (net_in t) r) t.time w));
    impulses = t.tally.impulses + 1;
  };
}

-- impulses counted one after another
abbrev pub with_impulses : Running → List Impulse → Running
with_impulses t [] = t
with_impulses t (x ∷ xs) = with_impulses (with_impulse t x.reward x.rated) xs
