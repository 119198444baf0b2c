-- A block of an unsettled leaf is taken.
use Rattle.std.proofs.Common.{ℕ, suc, ◌+◌, ◌<◌, ◌≤◌, ◌≡◌, ◌≢◌, ◌∙◌, ◌⊎◌, inl, inr, ap, sym, refl, subst, List, [], ◌∷◌, ◌++◌, length, Option, Some, None, arith}
use Rattle.std.specs.Prelude.{Result, Ok, Err}
use Rattle.san_base.specs.declared.ending.Trap.{Trap}
use Rattle.san_law.specs.Net.{Broken, Done, Enabled, Found, Local, Net, Nothing, Row, is_bare}
use Rattle.san_law.specs.State.{State, gather, local_of, part_of, row_of, slots_of}
use Rattle.san_law.specs.Step.{Ending, Event, limit_at}
use Rattle.san_law.specs.Trajectory.{Runs}
use Rattle.san_law.specs.Block.{Block, Close, Completion, FailsDone, FailsTest, More, Rests, after_done, after_found, fault_of, settle}
use Rattle.san_law.specs.Admitted.{Admitted, closing, event_by, event_then, admitted, unless_ended}
use Rattle.san_law.specs.Piece.{Kind, Settle, outcome_of, privates, leaf_view}
use Rattle.san_law.specs.Reward.{rates_from}
use Rattle.san_law.specs.Core.{Core, burst_after, leaf_of, leaf_view_of, stopped, take_admitted, tally_at, with_block}
use Rattle.san_law.specs.Lawful.{IsLate, IsLawful}
use Rattle.san_law.specs.Standing.{Counts, Follows, Holds, Sized, Stands, Upto, nothing_in, upto}
use Rattle.san_law.proofs.Places.{leaf_view_is}
use Rattle.san_law.proofs.Tallies.{AllAt, counts_later, admitted_at_time}
use Rattle.san_law.proofs.Steps.{count_later, rest_few}
use Rattle.san_law.proofs.Blocks.{EndsAs, Fits, IsReady, Keeps, ahead, keeps, last_after}
use Rattle.san_law.proofs.Commits.{Base, holds_after, serves_like, upto_none}
use Rattle.san_law.proofs.Orders.{below_upto, runs_later, skip}

-- a leaf of the core sees what stands in the marking
pub leaf_view_values : (net : Net) (c : Core) (s : State) (j : ℕ) → Holds net c s → j < length net.parts → (leaf_view_of net c j).values ≡ gather (slots_of net j) s.marking
leaf_view_values net c s j holds h =
    let part = part_of net j in
    let other : suc j ≢ j = omega arith in
    ap (λ vs. leaf_view part vs c.shared) (holds.values j h)
    ∙ (ap (λ sh. leaf_view part (gather (privates part) s.marking) sh) holds.shared
    ∙ leaf_view_is net.shared _ part s.marking (holds.sized.laid.apart j (suc j) other))

pub local_from : (a b : List ℕ) (q r : Row) → a ≡ b → q ≡ r → (let l : Local = record { values = a; row = q } in l) ≡ (let l : Local = record { values = b; row = r } in l)
local_from a b q r e f = ap (λ (vs : List ℕ). let l : Local = record { values = vs; row = q } in l) e ∙ ap (λ (w : Row). let l : Local = record { values = b; row = w } in l) f

pub fits_from : (net : Net) (c : Core) (s : State) (j : ℕ) → Sized net c s → j < length net.parts → Fits net s j
fits_from net c s j sized h = record { below = sized.laid.below j; distinct = sized.laid.distinct j; row = omega (arith, h, sized.rows) }

pub base_settle : (net : Net) (c : Core) (s : State) (j : ℕ) → Holds net c s → Upto net c s 0 → j < length net.parts → ((i : ℕ) → i ≢ j → c.order.going ≢ Some i) → ((i : ℕ) → i ≢ j → s.last ≡ Some i → nothing_in net s i) → Base net c s j (local_of net s j)
base_settle net c s j holds u h going last = record {
  sized = holds.sized;
  within = h;
  local = refl;
  shared = holds.shared;
  values = holds.values;
  fresh = λ i k n e. holds.fresh i k e;
  first = λ i k n e. holds.first i k e (going i n);
  last = last;
  dues = holds.dues;
  waits = λ i k n. u.waits i k (omega arith);
  late = λ i k n. holds.late i k;
  late_own = let w = u.waits j h (omega arith) in subst (IsLate s.time) w.row (holds.late j h);
  seen = let w = u.waits j h (omega arith) in serves_like net j (leaf_of c j).seen (gather (slots_of net j) s.stable) (gather (slots_of net j) s.stable) (leaf_of c j).row (row_of s j) refl (λ f. ap is_bare (sym w.row) ∙ f) w.seen;
}

-- a block that is admitted whole rests, or there is more
closes_by : (net : Net) (j burst count : ℕ) (c : Close) → closing net j burst count (fault_of c) ≡ None → (c ≡ Rests) ⊎ (c ≡ More)
closes_by net j burst count Rests e = inl refl
closes_by net j burst count More e = inr refl
closes_by net j burst count (FailsTest k trap) e = cc
closes_by net j burst count (FailsDone k trap) e = cc

unless_none : (o : Option Ending) (x : Admitted) → (unless_ended o x).1 ≡ None → x.1 ≡ None
unless_none None x e = e
unless_none (Some o) x e = cc

pub admitted_closes : (net : Net) (time j burst count : ℕ) (c : Close) (ks : List Completion) → (admitted net time j burst count (fault_of c) ks).1 ≡ None → (c ≡ Rests) ⊎ (c ≡ More)
admitted_closes net time j burst count c [] e = closes_by net j burst count c e
admitted_closes net time j burst count c (k ∷ ks) e = admitted_closes net time j (burst + 1) (count + 1) c ks (unless_none (limit_at net burst count) (event_then (event_by time j k) (admitted net time j (burst + 1) (count + 1) (fault_of c) ks)) e)

more_option : (net : Net) (j n k : ℕ) (l : Local) (last : Option ℕ) (o : Result Done Trap) → (after_done (settle net j n) l k o).close ≡ More → last_after last j (after_done (settle net j n) l k o).completions ≡ Some j
more_option net j n k l last (Err trap) e = cc
more_option net j n k l last (Ok d) e = refl

more_found : (net : Net) (j n : ℕ) (l : Local) (last : Option ℕ) (f : Found) → (after_found (settle net j n) (λ k. net.done j k l) l f).close ≡ More → last_after last j (after_found (settle net j n) (λ k. net.done j k l) l f).completions ≡ Some j
more_found net j n l last Nothing e = cc
more_found net j n l last (Broken k trap) e = cc
more_found net j n l last (Enabled k) e = more_option net j n k l last (net.done j k l) e

-- where a settling has more, the leaf completed last
pub more_last : (net : Net) (j n : ℕ) (l : Local) (last : Option ℕ) → (settle net j (suc n) l).close ≡ More → last_after last j (settle net j (suc n) l).completions ≡ Some j
more_last net j n l last e = more_found net j n l last (net.first j l.values) e

pub with_last : (b : Block) (j : ℕ) (last : Option ℕ) → ((b.close ≡ More) → last_after last j b.completions ≡ Some j) → (b.close ≡ Rests) ⊎ (b.close ≡ More) → (b.close ≡ Rests) ⊎ ((b.close ≡ More) × (last_after last j b.completions ≡ Some j))
with_last b j last f (inl e) = inl e
with_last b j last f (inr e) = inr (e, f e)

-- what a core holds with a renewal so far, it stands for
pub stands_from : (net : Net) → IsLawful net → (opening : State) (past : List Event) (c : Core) (s : State) (m : ℕ) → Runs net opening (past ++ c.events) s → Holds net c s → Upto net c s m → m ≤ upto net c.order → Counts net opening (past ++ c.events) c.order.time c.tally → Stands net opening past c s
stands_from net law opening past c s m runs holds u h counts = record { counts = counts; runs = runs; holds = holds; upto = skip net law c s m (upto net c.order) holds.fresh u h (λ i k l. below_upto net c.order i l) }

pub take_follows : (net : Net) (opening : State) (past : List Event) (c : Core) (time : ℕ) (kind : Kind) (x : Admitted) (whole : List Event → Core) → ((e : Ending) → x.1 ≡ Some e → Follows net opening past (stopped net c time (burst_after kind c.burst (length x.0)) x.0 e)) → (x.1 ≡ None → Follows net opening past (whole x.0)) → Follows net opening past (take_admitted net c time kind x whole)
take_follows net opening past c time kind (es, Some e) whole a b = a e refl
take_follows net opening past c time kind (es, None) whole a b = b refl

module _ (net : Net) (law : IsLawful net) (opening : State) (past : List Event) (c : Core) (u t : State) (j burst count : ℕ) (l : Local) (b : Block) (base : Base net c u j l) (keeps : Keeps net j l b) (x : Admitted) (before : State) (ran : Runs net opening (past ++ c.events) before) (counted : c.count ≡ before.count) (old : Counts net opening (past ++ c.events) c.order.time c.tally) (at : AllAt u.time x.0) (later : c.order.time ≤ u.time) (timely : u.time ≤ net.horizon) (rates : (c.order.time ≡ u.time) ⊎ (c.tally.rates ≡ rates_from net 0 net.parts before.marking)) where
  counts_then : (t : State) → Runs net opening (past ++ (c.events ++ x.0)) t → Counts net opening (past ++ (c.events ++ x.0)) u.time (tally_at net c u.time x.0)
  counts_then t runs = counts_later net opening before past c.events x.0 c.tally c.order.time u.time ran old at later timely rates (rest_few net law opening before t past c.events x.0 ran runs)

  -- a block that was run, taken with its events
  pub block_taken : (kind : Kind) → Runs net opening (past ++ (c.events ++ x.0)) t → EndsAs net u t j burst b x.1 → (x.1 ≡ None → (b.close ≡ Rests) ⊎ ((b.close ≡ More) × (last_after u.last j b.completions ≡ Some j))) → u.count + length b.completions ≡ count
      → Follows net opening past (take_admitted net c u.time kind x (λ es. with_block net c u.time burst count j es (outcome_of net j (leaf_of c j).seen b)))
  block_taken kind runs ends closes counts = take_follows net opening past c u.time kind x (λ es. with_block net c u.time burst count j es (outcome_of net j (leaf_of c j).seen b))
      (λ e is. (
        t,
        record {
          runs = runs;
          over = subst (EndsAs net u t j burst b) is ends;
          count = ap (λ n. n + length x.0) counted ∙ sym (count_later net opening before t past c.events x.0 ran runs);
          counts = counts_then t runs;
        },
      ))
      (λ is.
      let did = subst (EndsAs net u t j burst b) is ends in (
        t,
        stands_from net law opening past (with_block net c u.time burst count j x.0 (outcome_of net j (leaf_of c j).seen b)) t 0 runs (holds_after net c u t j burst count x.0 l b base keeps did (closes is) counts) (upto_none net c u t j burst count x.0 l b base keeps did) (omega arith) (counts_then t runs),
      ))

-- a block of a leaf, admitted from a time, a burst and a count
abbrev pub settle_with : Net → Core → ℕ → ℕ → ℕ → ℕ → ℕ → Local → Core
settle_with net c n j time burst count l =
    let b = settle net j n l in
    take_admitted net c time Settle (admitted net time j burst count (fault_of b.close) b.completions) (λ es. with_block net c time (burst + length b.completions) (count + length b.completions) j es (outcome_of net j (leaf_of c j).seen b))

-- what a settling rests on of a core and a state
record Meets (net : Net) (opening : State) (past : List Event) (c : Core) (s : State) : Type 0 where
  pub runs : Runs net opening (past ++ c.events) s
  pub time : c.order.time ≡ s.time
  pub count : c.count ≡ s.count
  pub counts : Counts net opening (past ++ c.events) c.order.time c.tally

settle_there : (net : Net) → IsLawful net → (opening : State) (past : List Event) (c : Core) (s : State) (n j : ℕ) → Meets net opening past c s → Base net c s j (local_of net s j) → IsReady net s j
    → Follows net opening past (settle_with net c (suc n) j s.time s.burst s.count (local_of net s j))
settle_there net law opening past c s n j m base ready =
    let l = local_of net s j in
    let b = settle net j (suc n) l in
    let x : Admitted = admitted net s.time j s.burst s.count (fault_of b.close) b.completions in
    let r = ahead net law j (suc n) s l refl (fits_from net c s j base.sized base.within) ready in
    block_taken net law opening past c s r.0 j (s.burst + length b.completions) (s.count + length b.completions) l b base (keeps net law j (suc n) l) x s m.runs m.count m.counts (admitted_at_time net s.time j s.burst s.count (fault_of b.close) b.completions) (omega (arith, m.time)) (omega (arith, m.time, m.counts.timely)) (inl m.time)
    Settle (runs_later net opening s r.0 past c.events x.0 m.runs r.1) r.2
    (λ e. with_last b j s.last (more_last net j n l s.last) (admitted_closes net s.time j s.burst s.count b.close b.completions e)) refl

settle_at : (net : Net) → IsLawful net → (opening : State) (past : List Event) (c : Core) (s : State) (n j time burst count : ℕ) (l : Local) → time ≡ s.time → burst ≡ s.burst → count ≡ s.count → l ≡ local_of net s j → Meets net opening past c s → Base net c s j (local_of net s j) → IsReady net s j
    → Follows net opening past (settle_with net c (suc n) j time burst count l)
settle_at net law opening past c s n j time burst count l et eb ec el m base ready =
    subst (λ a. Follows net opening past (settle_with net c (suc n) j a burst count l)) (sym et)
    (subst (λ a. Follows net opening past (settle_with net c (suc n) j s.time a count l)) (sym eb)
    (subst (λ a. Follows net opening past (settle_with net c (suc n) j s.time s.burst a l)) (sym ec)
    (subst (λ a. Follows net opening past (settle_with net c (suc n) j s.time s.burst s.count a)) (sym el)
    (settle_there net law opening past c s n j m base ready))))

-- the needed block, taken
pub settle_follows : (net : Net) → IsLawful net → (opening : State) (past : List Event) (c : Core) (s : State) (n j : ℕ) → Stands net opening past c s → upto net c.order ≡ 0 → j < length net.parts → ((i : ℕ) → i ≢ j → c.order.going ≢ Some i) → ((i : ℕ) → i ≢ j → s.last ≡ Some i → nothing_in net s i) → IsReady net s j
    → Follows net opening past (settle_with net c (suc n) j c.order.time c.burst c.count (leaf_view_of net c j))
settle_follows net law opening past c s n j st none h going last ready =
    let u : Upto net c s 0 = subst (Upto net c s) none st.upto in
    let w = u.waits j h (omega arith) in
    settle_at net law opening past c s n j c.order.time c.burst c.count (leaf_view_of net c j) st.holds.time st.holds.burst st.holds.count
    (local_from (leaf_view_of net c j).values (gather (slots_of net j) s.marking) (leaf_of c j).row (row_of s j) (leaf_view_values net c s j st.holds h) w.row)
    (record { runs = st.runs; time = st.holds.time; count = st.holds.count; counts = st.counts }) (base_settle net c s j st.holds u h going last) ready
