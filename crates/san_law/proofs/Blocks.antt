-- A block of a leaf is a run of the network, as far as the limits reach.
use Rattle.std.proofs.Common.{ℕ, zero, suc, ◌+◌, ◌<◌, ◌≡◌, ◌∙◌, ap, sym, refl, subst, List, [], ◌∷◌, length, Option, Some, None, false, arith, slice_index, slice_set, slice_index_or}
use Rattle.std.proofs.lemmas.List.{get_or-set_same, length-set, length-map, set-set, set-get_or}
use Rattle.std.specs.Prelude.{Result, Ok, Err}
use Rattle.san_base.specs.declared.ending.Trap.{Trap}
use Rattle.san_base.proofs.Bools.{or_none}
use Rattle.san_law.specs.Net.{Broken, Done, Enabled, Found, Local, Net, Nothing, Row, no_row}
use Rattle.san_law.specs.State.{State, local_of, scatter, slots_of}
use Rattle.san_law.specs.Next.{Completes, TrapsAt, next_instant, next_of}
use Rattle.san_law.specs.Step.{Ending, Happened, Over, Stepped, Trapped, complete, event_of, limit_at, step, unless_over, with_local}
use Rattle.san_law.specs.Trajectory.{Runs}
use Rattle.san_law.specs.Block.{Block, Close, Completion, FailsDone, FailsTest, More, Rests, after_done, after_found, before, completion_of, ended, fault_of, settle}
use Rattle.san_law.specs.Admitted.{Admitted, ending_or, event_then, admitted, unless_ended}
use Rattle.san_law.specs.Lawful.{AllBelow, AreDistinct, IsLawful}
use Rattle.san_law.specs.Standing.{nothing_in}
use Rattle.san_law.proofs.Places.{gather_scatter, scatter_length, scatter_same, scatter_twice}

pub record Fits (net : Net) (s : State) (j : ℕ) : Type 0 where
  pub below : AllBelow (slots_of net j) (length s.marking)
  pub distinct : AreDistinct (slots_of net j)
  pub row : j < length s.rows

-- what the leaf has first comes next
pub record IsReady (net : Net) (s : State) (j : ℕ) : Type 0 where
  pub enabled : (k : ℕ) → next_of net s j ≡ Enabled k → next_instant net s ≡ Completes j k
  pub broken : (k : ℕ) (trap : Trap) → next_of net s j ≡ Broken k trap → next_instant net s ≡ TrapsAt j k trap

abbrev pub last_after : Option ℕ → ℕ → List Completion → Option ℕ
last_after last j [] = last
last_after last j (k ∷ ks) = Some j

-- what a block leaves of a state
pub record Did (net : Net) (s t : State) (j at_burst : ℕ) (b : Block) : Type 0 where
  pub time : t.time ≡ s.time
  pub marking : t.marking ≡ scatter (slots_of net j) b.left.values s.marking
  pub stable : t.stable ≡ s.stable
  pub rows : t.rows ≡ slice_set s.rows j b.left.row
  pub burst : t.burst ≡ at_burst
  pub last : t.last ≡ last_after s.last j b.completions
  pub count : t.count ≡ s.count + length b.completions
  pub rests : b.close ≡ Rests → nothing_in net t j

abbrev pub EndsAs : Net → State → State → ℕ → ℕ → Block → Option Ending → Type 0
EndsAs net s t j burst b None = Did net s t j burst b
EndsAs net s t j burst b (Some e) = (step net t).0 ≡ Over s.time e

abbrev pub Claim : Net → ℕ → State → Block → Admitted → Type 0
Claim net j s b x = (t : State) × Runs net s x.0 t × EndsAs net s t j (s.burst + length b.completions) b x.1

abbrev admitted_at : Net → State → ℕ → Block → Admitted
admitted_at net s j b = admitted net s.time j s.burst s.count (fault_of b.close) b.completions

abbrev pub Ahead : Net → ℕ → ℕ → Type 0
Ahead net j n = (s : State) (l : Local) → local_of net s j ≡ l → Fits net s j → IsReady net s j → Claim net j s (settle net j n l) (admitted_at net s j (settle net j n l))

did_nothing : (net : Net) (j : ℕ) (s : State) (l : Local) (c : Close) → local_of net s j ≡ l → (c ≡ Rests → nothing_in net s j) → Did net s s j (s.burst + 0) (ended l c)
did_nothing net j s l c is rests = record {
  time = refl;
  marking = sym (scatter_same (slots_of net j) s.marking) ∙ ap (λ (v : Local). scatter (slots_of net j) v.values s.marking) is;
  stable = refl;
  rows = sym (set-get_or s.rows j no_row) ∙ ap (λ (v : Local). slice_set s.rows j v.row) is;
  burst = omega arith;
  last = refl;
  count = omega arith;
  rests = rests;
}

-- the leaf that completed last goes first
pub ready_again : (net : Net) (s : State) (j : ℕ) → s.last ≡ Some j → IsReady net s j
unfolding next_instant
ready_again net s j last = record { enabled = λ k e. rw (last, e) refl; broken = λ k trap e. rw (last, e) refl }

pub local_after : (net : Net) (j burst : ℕ) (s : State) (m : Local) → Fits net s j → length m.values ≡ length (slots_of net j) → local_of net (with_local net s burst j m) j ≡ m
local_after net j burst s m fits long =
    let v = gather_scatter (slots_of net j) m.values s.marking fits.below fits.distinct long in
    let r : slice_index_or (slice_set s.rows j m.row) j no_row ≡ m.row = get_or-set_same s.rows j m.row no_row fits.row in
    ap (λ (vs : List ℕ). let l : Local = record { values = vs; row = slice_index_or (slice_set s.rows j m.row) j no_row } in l) v
    ∙ ap (λ (w : Row). let l : Local = record { values = m.values; row = w } in l) r

pub fits_after : (net : Net) (j burst : ℕ) (s : State) (m : Local) → Fits net s j → Fits net (with_local net s burst j m) j
fits_after net j burst s m fits = record {
  below = subst (AllBelow (slots_of net j)) (sym (scatter_length (slots_of net j) m.values s.marking)) fits.below;
  distinct = fits.distinct;
  row = omega (arith, fits.row, length-set s.rows j m.row);
}

-- what follows a completion follows it too
did_more : (net : Net) (j k burst burst1 : ℕ) (s t : State) (d : Done) (b : Block) → Did net (with_local net s burst1 j d.left) t j burst b → Did net s t j burst (before k d b)
did_more net j k burst burst1 s t o b d = let m = o.left in record {
  time = d.time;
  marking = d.marking ∙ scatter_twice (slots_of net j) b.left.values m.values s.marking;
  stable = d.stable;
  rows = d.rows ∙ set-set s.rows j m.row b.left.row;
  burst = d.burst;
  last = d.last ∙ last_same b.completions;
  count = omega (arith, d.count);
  rests = d.rests;
}
  where
    last_same : (ks : List Completion) → last_after (Some j) j ks ≡ Some j
    last_same [] = refl
    last_same (k ∷ ks) = refl

ends_more : (net : Net) (j k burst0 burst burst1 : ℕ) (s t : State) (o : Done) (b : Block) (e : Option Ending) → burst0 ≡ burst → EndsAs net (with_local net s burst1 j o.left) t j burst0 b e → EndsAs net s t j burst (before k o b) e
ends_more net j k burst0 burst burst1 s t o b None same d = did_more net j k burst burst1 s t o b (subst (λ n. Did net (with_local net s burst1 j o.left) t j n b) same d)
ends_more net j k burst0 burst burst1 s t o b (Some e) same d = d

-- one completion, and then the rest
pub one_more : (net : Net) (j k burst1 burst : ℕ) (s u : State) (d : Done) (b : Block) → step net s ≡ (Happened (event_of u.time j k d), with_local net u burst1 j d.left)
    → Claim net j (with_local net u burst1 j d.left) b (admitted net u.time j burst1 (u.count + 1) (fault_of b.close) b.completions)
    → burst1 + length b.completions ≡ burst
    → let x : Admitted = event_then (event_of u.time j k d) (admitted net u.time j burst1 (u.count + 1) (fault_of b.close) b.completions) in (t : State) × Runs net s x.0 t × EndsAs net u t j burst (before k d b) x.1
one_more net j k burst1 burst s u d b go (t, runs, ends) same = (
  t,
  (ap (λ (x : Stepped × State). x.0) go, subst (λ (v : State). Runs net v (admitted net u.time j burst1 (u.count + 1) (fault_of b.close) b.completions).0 t) (sym (ap (λ (x : Stepped × State). x.1) go)) runs),
  ends_more net j k (burst1 + length b.completions) burst burst1 u t d b (admitted net u.time j burst1 (u.count + 1) (fault_of b.close) b.completions).1 same ends,
)

-- where the limits let the leaf's activity through
step_at : (net : Net) (j k : ℕ) (s : State) (o : Option Ending) (p : Result Done Trap) → next_instant net s ≡ Completes j k → limit_at net s.burst s.count ≡ o → net.done j k (local_of net s j) ≡ p → step net s ≡ unless_over s o (complete net s (s.burst + 1) j k p)
unfolding step
step_at net j k s o p next lim done = rw (next, lim, done) refl

by_limit : (net : Net) (law : IsLawful net) (n j k : ℕ) (s : State) (l : Local) (o : Option Ending) (d : Done) → Ahead net j n → local_of net s j ≡ l → Fits net s j → next_instant net s ≡ Completes j k → limit_at net s.burst s.count ≡ o → net.done j k l ≡ Ok d
    → let b = settle net j n d.left in Claim net j s (before k d b) (unless_ended o (event_then (event_of s.time j k d) (admitted net s.time j (s.burst + 1) (s.count + 1) (fault_of b.close) b.completions)))
by_limit net law n j k s l (Some e) d ahead is fits next lim done =
    let here : net.done j k (local_of net s j) ≡ Ok d = ap (net.done j k) is ∙ done in
    (s, refl, ap (λ (x : Stepped × State). x.0) (step_at net j k s (Some e) (Ok d) next lim here))
by_limit net law n j k s l None d ahead is fits next lim done =
    let here : net.done j k (local_of net s j) ≡ Ok d = ap (net.done j k) is ∙ done in
    let long : length d.left.values ≡ length (slots_of net j) = law.keeps j k (local_of net s j) d here ∙ length-map (slots_of net j) (λ p. slice_index s.marking p) in
    let u = with_local net s (s.burst + 1) j d.left in
    let b = settle net j n d.left in
    one_more net j k (s.burst + 1) (s.burst + length (completion_of k d ∷ b.completions)) s s d b (step_at net j k s None (Ok d) next lim here)
    (ahead u d.left (local_after net j (s.burst + 1) s d.left fits long) (fits_after net j (s.burst + 1) s d.left fits) (ready_again net u j refl)) (omega arith)

fails_by : (net : Net) (j k : ℕ) (trap : Trap) (s : State) (l : Local) (o : Option Ending) → local_of net s j ≡ l → next_instant net s ≡ Completes j k → limit_at net s.burst s.count ≡ o → net.done j k l ≡ Err trap → (step net s).0 ≡ Over s.time (ending_or o (Trapped j k trap))
fails_by net j k trap s l None is next lim done = ap (λ (x : Stepped × State). x.0) (step_at net j k s None (Err trap) next lim (ap (net.done j k) is ∙ done))
fails_by net j k trap s l (Some e) is next lim done = ap (λ (x : Stepped × State). x.0) (step_at net j k s (Some e) (Err trap) next lim (ap (net.done j k) is ∙ done))

by_done : (net : Net) (law : IsLawful net) (n j k : ℕ) (s : State) (l : Local) (o : Result Done Trap) → Ahead net j n → local_of net s j ≡ l → Fits net s j → next_instant net s ≡ Completes j k → net.done j k l ≡ o
    → Claim net j s (after_done (settle net j n) l k o) (admitted_at net s j (after_done (settle net j n) l k o))
by_done net law n j k s l (Err trap) ahead is fits next done = (s, refl, fails_by net j k trap s l (limit_at net s.burst s.count) is next refl done)
by_done net law n j k s l (Ok d) ahead is fits next done = by_limit net law n j k s l (limit_at net s.burst s.count) d ahead is fits next refl done

trap_at : (net : Net) (j k : ℕ) (trap : Trap) (s : State) → next_instant net s ≡ TrapsAt j k trap → (step net s).0 ≡ Over s.time (Trapped j k trap)
unfolding step
trap_at net j k trap s next = rw next refl

by_found : (net : Net) (law : IsLawful net) (n j : ℕ) (s : State) (l : Local) (f : Found) → Ahead net j n → local_of net s j ≡ l → Fits net s j → IsReady net s j → next_of net s j ≡ f
    → let b = after_found (settle net j n) (λ k. net.done j k l) l f in Claim net j s b (admitted_at net s j b)
by_found net law n j s l Nothing ahead is fits ready e = (s, refl, did_nothing net j s l Rests is (λ r. e))
by_found net law n j s l (Broken k trap) ahead is fits ready e = (s, refl, trap_at net j k trap s (ready.broken k trap e))
by_found net law n j s l (Enabled k) ahead is fits ready e = by_done net law n j k s l (net.done j k l) ahead is fits (ready.enabled k e) refl

pub ahead : (net : Net) (law : IsLawful net) (j n : ℕ) → Ahead net j n
ahead net law j zero s l is fits ready = (s, refl, did_nothing net j s l More is (λ e. cc))
ahead net law j (suc n) s l is fits ready = by_found net law n j s l (net.first j l.values) (ahead net law j n) is fits ready (ap (λ (v : Local). net.first j v.values) is)

-- what a block keeps of the leaf
pub record Keeps (net : Net) (j : ℕ) (l : Local) (b : Block) : Type 0 where
  pub long : length b.left.values ≡ length l.values
  pub stays : (p : ℕ) → b.sets p ≡ false → slice_index b.left.values p ≡ slice_index l.values p
  pub idle : b.completions ≡ [] → (p : ℕ) → b.sets p ≡ false
  pub timers : b.left.row.timers ≡ l.row.timers

keeps_nothing : (net : Net) (j : ℕ) (l : Local) (c : Close) → Keeps net j l (ended l c)
keeps_nothing net j l c = record { long = refl; stays = λ p h. refl; idle = λ e p. refl; timers = refl }

pub keeps_more : (net : Net) (law : IsLawful net) (j k : ℕ) (l : Local) (d : Done) (b : Block) → net.done j k l ≡ Ok d → Keeps net j d.left b → Keeps net j l (before k d b)
keeps_more net law j k l d b done h = record {
  long = h.long ∙ law.keeps j k l d done;
  stays = λ p o. let q = or_none (d.sets p) (b.sets p) o in h.stays p q.1 ∙ law.sets j k l d done p q.0;
  idle = λ e p. cc;
  timers = h.timers ∙ law.timers j k l d done;
}

keeps_option : (net : Net) (law : IsLawful net) (j n k : ℕ) (l : Local) (o : Result Done Trap) → ((m : Local) → Keeps net j m (settle net j n m)) → net.done j k l ≡ o → Keeps net j l (after_done (settle net j n) l k o)
keeps_option net law j n k l (Err trap) go e = keeps_nothing net j l (FailsDone k trap)
keeps_option net law j n k l (Ok d) go e = keeps_more net law j k l d (settle net j n d.left) e (go d.left)

keeps_found : (net : Net) (law : IsLawful net) (j n : ℕ) (l : Local) (f : Found) → ((m : Local) → Keeps net j m (settle net j n m)) → Keeps net j l (after_found (settle net j n) (λ k. net.done j k l) l f)
keeps_found net law j n l Nothing go = keeps_nothing net j l Rests
keeps_found net law j n l (Broken k trap) go = keeps_nothing net j l (FailsTest k trap)
keeps_found net law j n l (Enabled k) go = keeps_option net law j n k l (net.done j k l) go refl

pub keeps : (net : Net) (law : IsLawful net) (j n : ℕ) (l : Local) → Keeps net j l (settle net j n l)
keeps net law j zero l = keeps_nothing net j l More
keeps net law j (suc n) l = keeps_found net law j n l (net.first j l.values) (λ m. keeps net law j n m)
