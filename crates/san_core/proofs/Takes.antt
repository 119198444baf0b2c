-- The committed part's steps make of it what the law makes of the core.
use Rattle.std.proofs.Common.{ℕ, ◌+◌, ◌≤◌, ◌≡◌, ◌∙◌, ap, sym, refl, List, [], length, map, Option, Some, None, arith}
use Rattle.std.specs.Prelude.{take, slice_set}
use Rattle.std.proofs.lemmas.List.{length-map, length-take-le}
use Rattle.san_base.specs.declared.numbers.ActId.{ActId}
use Rattle.san_base.specs.declared.numbers.LeafId.{LeafId}
use Rattle.san_base.specs.declared.numbers.Tick.{Tick}
use Rattle.san_base.specs.declared.piece.Kind.{Kind}
use Rattle.san_base.specs.declared.piece.Kind.TheVariants as kind
use Rattle.san_base.specs.Rated.{term_value}
use Rattle.san_law.specs.Net.{Net}
use Rattle.san_law.specs.Admitted.{Admitted, event_by}
use Rattle.san_law.specs.Core.{Core, burst_after, put, take_admitted, taken, tally_at, with_block, with_renewal}
use Rattle.san_law.specs.Order.{order_after, order_renewed}
use Rattle.san_law.specs.Piece as law
use Rattle.san_law.specs.Step.{Ending, Event}
use Rattle.san_law.specs.Tally.{Tally}
use Rattle.san_leaf.specs.Outcomes.{act_in, outcome_in}
use Rattle.san_leaf.specs.States.{kind_in}
use Rattle.san_leaf.specs.declared.outcome.Outcome.{Outcome}
use Rattle.san_net.specs.Network.{Network}
use Rattle.san_reward.specs.Running.{Running, advanced, with_impulses, with_leaf_rates}
use Rattle.san_core.specs.Committed.{Belongs, CommittedValue, quiet, with_taken}
use Rattle.san_core.specs.declared.admission.Taking.{Taking}
use Rattle.san_core.specs.inner.Admits.{admits}
use Rattle.san_core.specs.inner.Impulses.{impulses_from}
use Rattle.san_core.specs.inner.Steps.{counted_by, halted, put_in, with_counts}
use Rattle.san_core.proofs.Counting.{impulses_kept, tally_is}
use Rattle.san_core.proofs.Passes.{admitted_by, admitted_is}
use Rattle.san_leaf.proofs.RecordLemmas.{completions_long}

-- the core that is taken whole, by the kind
abbrev pub whole : Net → Core → ℕ → ℕ → law.Kind → law.Outcome → List Event → Core
whole net c j time law.Settle o es = with_block net c time (burst_after law.Settle c.burst (length o.completions)) (c.count + length o.completions) j es o
whole net c j time (law.Fire k) o es = with_block net c time (burst_after (law.Fire k) c.burst (length o.completions)) (c.count + length o.completions) j es o
whole net c j time law.Refresh o es = with_renewal net c time j o

taken_by : (net : Net) (c : Core) (j time : ℕ) (kind : law.Kind) (o : law.Outcome) → taken net c j kind time o ≡ take_admitted net c time kind (admitted_by net time j c.burst c.count kind o.fault o.completions) (whole net c j time kind o)
taken_by net c j time law.Settle o = refl
taken_by net c j time (law.Fire k) o = refl
taken_by net c j time law.Refresh o = refl

module _ (net : Net) (n : Network) (v : CommittedValue) (belongs : Belongs net n v) (leaf : LeafId) (first : ActId) (time : Tick) (o : Outcome) where
  abbrev pub t : Kind → Taking
  t k = record { leaf = leaf; first = first; kind = k; time = time }

  abbrev pub made : law.Outcome
  made = outcome_in first.0 o

  abbrev pub kind_here : Kind → law.Kind
  kind_here k = kind_in first.0 k

  abbrev pub allowed : Kind → ℕ × Option Ending
  allowed k = admits net.burst net.limit leaf.0 v.core.burst v.core.count (kind_here k) made.fault (length made.completions)

  abbrev events_to : ℕ → List Event
  events_to p = map (event_by time.0 leaf.0) (take p made.completions)

  abbrev pub acts : List (ℕ × ℕ)
  acts = map (act_in first.0) o.events.items

  -- the committed part as a core that is taken leaves it
  abbrev left : Core → CommittedValue
  left d = record {
    core = quiet d;
    running = record { horizon = v.running.horizon; time = time.0; spans = v.running.spans; terms = v.running.terms; tally = d.tally };
    firsts = v.firsts;
    horizon = v.horizon;
  }

  -- what is taken, by how much is let through
  pub taken_is : (k : Kind) (a : ℕ × Option Ending) → a ≡ allowed k → taken net v.core leaf.0 (kind_here k) time.0 made ≡ take_admitted net v.core time.0 (kind_here k) (events_to a.0, a.1) (whole net v.core leaf.0 time.0 (kind_here k) made)
  taken_is k a is =
      taken_by net v.core leaf.0 time.0 (kind_here k) made
      ∙ ap (λ (x : Admitted). take_admitted net v.core time.0 (kind_here k) x (whole net v.core leaf.0 time.0 (kind_here k) made))
      (admitted_is net time.0 leaf.0 v.core.burst v.core.count (kind_here k) made.fault made.completions
      ∙ ap (λ (b : ℕ × Option Ending). (events_to b.0, b.1)) (sym is))

  pub long : length made.completions ≡ length acts
  long = completions_long 0 acts o.impulses.items

  abbrev pub counted : ℕ → Running
  counted p = with_impulses (advanced v.running time.0) (impulses_from 0 p o.impulses.items)

  tally_here : (p : ℕ) → p ≤ length acts → (counted p).tally ≡ tally_at net v.core time.0 (events_to p)
  tally_here p l = tally_is net leaf.0 o.impulses.items v.core v.running belongs.of belongs.tally belongs.time time.0 p acts l

  -- the tally apart, a running that counted impulses is as before
  running_is : (p : ℕ) → counted p ≡ record { horizon = v.running.horizon; time = time.0; spans = v.running.spans; terms = v.running.terms; tally = (counted p).tally }
  running_is p = impulses_kept (advanced v.running time.0) (impulses_from 0 p o.impulses.items)

  events_long : (p : ℕ) → p ≤ length acts → length (events_to p) ≡ p
  events_long p l = length-map (take p made.completions) (event_by time.0 leaf.0) ∙ length-take-le p made.completions (omega (arith, l, long))

  -- a stop
  abbrev stopped_with : Kind → Ending → ℕ → Tally → CommittedValue
  stopped_with k e q x = record {
    core = record {
      leaves = v.core.leaves;
      shared = v.core.shared;
      order = record { going = v.core.order.going; unsettled = v.core.order.unsettled; stale = v.core.order.stale; dues = v.core.order.dues; time = time.0 };
      burst = burst_after (kind_here k) v.core.burst q;
      count = v.core.count + q;
      events = [];
      tally = x;
      stop = Some e;
    };
    running = record { horizon = v.running.horizon; time = time.0; spans = v.running.spans; terms = v.running.terms; tally = x };
    firsts = v.firsts;
    horizon = v.horizon;
  }

  abbrev stopped_by : Kind → Ending → ℕ → Running → CommittedValue
  stopped_by k e p u = record {
    core = (halted (with_counts v (counted p) (burst_after (kind_here k) v.core.burst p) (v.core.count + p)) time.0 e).core;
    running = u;
    firsts = v.firsts;
    horizon = v.horizon;
  }

  pub stop_is : (k : Kind) (p : ℕ) (e : Ending) → p ≤ length acts → (p, Some e) ≡ allowed k
      → halted (with_counts v (counted p) (burst_after (kind_here k) v.core.burst p) (v.core.count + p)) time.0 e ≡ with_taken net v leaf.0 (kind_here k) time.0 made
  stop_is k p e l is =
      ap (stopped_by k e p) (running_is p)
      ∙ (ap (stopped_with k e p) (tally_here p l)
      ∙ (ap (λ (q : ℕ). stopped_with k e q (tally_at net v.core time.0 (events_to p))) (sym (events_long p l))
      ∙ ap left (sym (taken_is k (p, Some e) is))))

  -- a block that is taken whole
  abbrev block_with : Kind → ℕ → Tally → CommittedValue
  block_with k q x = record {
    core = record {
      leaves = slice_set v.core.leaves leaf.0 made.state;
      shared = put made.writes v.core.shared;
      order = order_after net v.core.order time.0 leaf.0 made;
      burst = burst_after (kind_here k) v.core.burst q;
      count = v.core.count + q;
      events = [];
      tally = x;
      stop = None;
    };
    running = record { horizon = v.running.horizon; time = time.0; spans = v.running.spans; terms = v.running.terms; tally = x };
    firsts = v.firsts;
    horizon = v.horizon;
  }

  abbrev block_by : Kind → ℕ → Running → CommittedValue
  block_by k p u = record {
    core = record {
      leaves = slice_set v.core.leaves leaf.0 made.state;
      shared = put made.writes v.core.shared;
      order = order_after net v.core.order time.0 leaf.0 made;
      burst = burst_after (kind_here k) v.core.burst p;
      count = v.core.count + p;
      events = [];
      tally = (counted p).tally;
      stop = None;
    };
    running = u;
    firsts = v.firsts;
    horizon = v.horizon;
  }

  block_is : (k : Kind) (p : ℕ) → p ≤ length acts → p ≡ length made.completions → (p, None) ≡ allowed k
      → left (with_block net v.core time.0 (burst_after (kind_here k) v.core.burst (length made.completions)) (v.core.count + length made.completions) leaf.0 (events_to p) made) ≡ left (take_admitted net v.core time.0 (kind_here k) (events_to p, None) (whole net v.core leaf.0 time.0 (kind_here k) made))
      → block_by k p (counted p) ≡ with_taken net v leaf.0 (kind_here k) time.0 made
  block_is k p l all is same =
      ap (block_by k p) (running_is p)
      ∙ (ap (block_with k p) (tally_here p l)
      ∙ (ap (λ (q : ℕ). block_with k q (tally_at net v.core time.0 (events_to p))) all
      ∙ (same
      ∙ ap left (sym (taken_is k (p, None) is)))))

  -- a renewal
  zero_more : (a : ℕ) → a + 0 ≡ a
  zero_more a = omega arith

  abbrev renewed_tally : Tally → Tally
  renewed_tally x = record { rates = slice_set x.rates leaf.0 (map term_value o.rates.items); sums = x.sums; impulses = x.impulses }

  abbrev renewed_with : Tally → ℕ → List ℕ → ℕ → CommittedValue
  renewed_with x m shared q = record {
    core = record {
      leaves = slice_set v.core.leaves leaf.0 made.state;
      shared = shared;
      order = order_renewed v.core.order time.0 leaf.0 made;
      burst = v.core.burst + q;
      count = v.core.count + q;
      events = [];
      tally = renewed_tally x;
      stop = None;
    };
    running = record { horizon = v.running.horizon; time = m; spans = v.running.spans; terms = v.running.terms; tally = renewed_tally x };
    firsts = v.firsts;
    horizon = v.horizon;
  }

  abbrev renewed_counts : ℕ → ℕ → CommittedValue
  renewed_counts b q = record {
    core = record {
      leaves = slice_set v.core.leaves leaf.0 made.state;
      shared = v.core.shared;
      order = order_renewed v.core.order time.0 leaf.0 made;
      burst = b;
      count = q;
      events = [];
      tally = renewed_tally v.core.tally;
      stop = None;
    };
    running = record { horizon = v.running.horizon; time = time.0; spans = v.running.spans; terms = v.running.terms; tally = renewed_tally v.core.tally };
    firsts = v.firsts;
    horizon = v.horizon;
  }

  renewal_is : (p : ℕ) → p ≡ 0 → made.writes ≡ [] → v.core.order.time ≡ time.0 → (p, None) ≡ allowed kind.Refresh
      → put_in net (with_counts v (with_leaf_rates v.running leaf.0 (map term_value o.rates.items)) (v.core.burst + p) (v.core.count + p)) (t kind.Refresh) made ≡ with_taken net v leaf.0 law.Refresh time.0 made
  renewal_is p none writes at is =
      ap (λ (ws : List (ℕ × ℕ)). renewed_with v.running.tally v.running.time (put ws v.core.shared) p) writes
      ∙ (ap (renewed_with v.running.tally v.running.time v.core.shared) none
      ∙ (ap (λ (m : ℕ). renewed_with v.running.tally m v.core.shared 0) (belongs.time ∙ at)
      ∙ (ap (λ (x : Tally). renewed_with x time.0 v.core.shared 0) belongs.tally
      ∙ (ap (λ (b : ℕ). renewed_counts b (v.core.count + 0)) (zero_more v.core.burst) ∙ (ap (renewed_counts v.core.burst) (zero_more v.core.count)
      ∙ ap left (sym (taken_is kind.Refresh (p, None) is)))))))

  -- what a suiting piece is where it is let through whole
  pub record Whole (k : Kind) (p : ℕ) : Type 0 where
    pub within : p ≤ length acts
    pub all : p ≡ length made.completions
    pub renews : k ≡ kind.Refresh → (p ≡ 0) × (made.writes ≡ []) × (v.core.order.time ≡ time.0)

  pub put_is : (k : Kind) (p : ℕ) → Whole k p → (p, None) ≡ allowed k
      → put_in net (with_counts v (counted_by v.running (t k) p o None k) (burst_after (kind_here k) v.core.burst p) (v.core.count + p)) (t k) made ≡ with_taken net v leaf.0 (kind_here k) time.0 made
  put_is kind.Settle p w is = block_is kind.Settle p w.within w.all is refl
  put_is (kind.Fire act) p w is = block_is (kind.Fire act) p w.within w.all is refl
  put_is kind.Refresh p w is = let r = w.renews refl in renewal_is p r.0 r.1 r.2 is
