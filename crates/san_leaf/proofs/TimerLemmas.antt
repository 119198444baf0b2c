-- Timers stand at timed activities alone.
use Rattle.std.proofs.Common.{ℕ, zero, suc, ◌-◌, ◌≡◌, ◌∙◌, ap, sym, refl, subst, arith, List, [], ◌∷◌, length, Option, Some, None, Result, Ok, Err}
use Rattle.std.specs.Prelude.{slice_get, slice_index, slice_index_or, slice_set}
use Rattle.san_base.specs.declared.ending.Trap.{Trap}
use Rattle.san_draw.specs.Key.{draw_of}
use Rattle.san_law.specs.Activity.{Activity, Effected, activity_of, case_stream, delay_stream, done_by}
use Rattle.san_law.specs.Block.{after_done, after_found, settle}
use Rattle.san_law.specs.Clocks.{AllClocks, BadClock, Clock, Clocks, clock_then, renewed_act, renewed_acts, row_of_clocks}
use Rattle.san_law.specs.First.{due_of}
use Rattle.san_law.specs.Net.{Broken, Done, Enabled, Found, Local, Net, Nothing, Row, Timer, without_timer}
use Rattle.san_law.specs.Piece.{Fire, Kind, LeafState, Refresh, Settle, dropped, fired_outcome, leaf_view, renewed_outcome, sees}
use Rattle.san_law.specs.State.{part_of}
use Rattle.san_law.proofs.Firsts.{least_timer_is_first}
use Rattle.san_net.specs.Instants.{Named}
use Rattle.san_net.specs.Leaf.{activities_from, activity_in, kind_in, leaf_of}
use Rattle.san_net.specs.declared.activity.ActKind.{ActKind}
use Rattle.san_net.specs.declared.activity.ActKind.TheVariants as kind
use Rattle.san_net.specs.declared.atomic.ImpulseTerm.{ImpulseTerm}
use Rattle.san_net.specs.declared.part.Part.{Part}
use Rattle.san_leaf.specs.Fits.{IsTimed}
use Rattle.san_leaf.specs.Lawful.{net_of_part}
use Rattle.san_leaf.specs.Pieces.{piece_in}
use Rattle.san_leaf.specs.Timers.{AreOfTimed, HasTimed, LeastTimerFits, OpensTimed, PiecesKeepTimed}
use Rattle.san_leaf.proofs.FitLemmas.{no_timer}

pub opens_timed : (p : Part) → OpensTimed p
opens_timed p k t there = absurd (no_timer (length p.atomic.acts) k t there)

-- the timer that a row's least one is
timer_there : (ts : List (Option Timer)) (k due : ℕ) → due_of (slice_index_or ts k None) ≡ Some due → (t : Timer) × (slice_get ts k ≡ Some (Some t))
timer_there [] k due e = cc
timer_there (None ∷ ts) zero due e = cc
timer_there (Some t ∷ ts) zero due e = (t, refl)
timer_there (x ∷ ts) (suc k) due e = timer_there ts k due e

pub least_fits : (p : Part) → LeastTimerFits p
least_fits p row due k act timed least is =
    let there = timer_there row.timers k due (least_timer_is_first row due k least).0 in
    let found = timed k there.0 there.1 in
    let own : act.0 - p.first.0 ≡ k = omega (arith, is) in
    (omega (arith, is), (found.0, ap (slice_get p.atomic.acts) own ∙ found.1, found.2))

-- a dropped timer is no other's
dropped_there : (ts : List (Option Timer)) (k i : ℕ) (t : Timer) → slice_get (slice_set ts k None) i ≡ Some (Some t) → slice_get ts i ≡ Some (Some t)
dropped_there [] k i t e = e
dropped_there (x ∷ ts) zero zero t e = cc
dropped_there (x ∷ ts) zero (suc i) t e = e
dropped_there (x ∷ ts) (suc k) zero t e = e
dropped_there (x ∷ ts) (suc k) (suc i) t e = dropped_there ts k i t e

-- one activity's renewal
renewed_one : (draw : ℕ → ℕ) (time : ℕ) (seen values : List ℕ) (a : Activity) (c : ActKind) (x : Option Timer) (n : ℕ) (y : Clock) (t : Timer) → renewed_act draw time seen values a (kind_in c) x n ≡ Ok y → y.0 ≡ Some t → ((s : Timer) → x ≡ Some s → IsTimed c) → IsTimed c
renewed_one draw time seen values a (kind.Timed delay pair) x n y t is there was = tt
renewed_one draw time seen values a (kind.Instant priority) x n y t is there was =
    let same : (x, n) ≡ y = cc in
    was t (ap (λ (z : Clock). z.0) same ∙ there)

same_item : (a b : Named) → Some a ≡ Some b → a ≡ b
same_item a b e = cc

abbrev timers_of : Clocks → List (Option Timer)
timers_of (AllClocks ts ns) = ts
timers_of (BadClock k trap) = []

-- the renewal of all
module _ (draws : ℕ → ℕ → ℕ) (time : ℕ) (seen values : List ℕ) (terms : List ImpulseTerm) where
  renewed_all : (k : ℕ) (acts : List Named) (ts : List (Option Timer)) (ns : List ℕ) (us : List (Option Timer)) (ms : List ℕ) → renewed_acts draws time seen values k (activities_from terms k acts) ts ns ≡ AllClocks us ms → AreOfTimed acts ts → AreOfTimed acts us
  renewed_all k [] ts ns us ms is was = subst (AreOfTimed []) (ap timers_of is) was
  renewed_all k (a ∷ acts) [] ns us ms is was = subst (AreOfTimed (a ∷ acts)) (ap timers_of is) was
  renewed_all k (a ∷ acts) (x ∷ ts) [] us ms is was = subst (AreOfTimed (a ∷ acts)) (ap timers_of is) was
  renewed_all k (a ∷ acts) (x ∷ ts) (n ∷ ns) us ms is was = by_first (renewed_act (draws k) time seen values (activity_in terms k a.1) (kind_in a.1.kind) x n) (renewed_acts draws time seen values (suc k) (activities_from terms (suc k) acts) ts ns) (renewed_all (suc k) acts ts ns) refl refl is
    where
      was_here : (s : Timer) → x ≡ Some s → IsTimed a.1.kind
      was_here s e =
          let w = was 0 s (ap Some e) in
          subst (λ (b : Named). IsTimed b.1.kind) (sym (same_item a w.0 w.1)) w.2

      by_first : (r : Result Clock Trap) (rest : Clocks) → ((vs : List (Option Timer)) (ls : List ℕ) → renewed_acts draws time seen values (suc k) (activities_from terms (suc k) acts) ts ns ≡ AllClocks vs ls → AreOfTimed acts ts → AreOfTimed acts vs) → renewed_act (draws k) time seen values (activity_in terms k a.1) (kind_in a.1.kind) x n ≡ r → renewed_acts draws time seen values (suc k) (activities_from terms (suc k) acts) ts ns ≡ rest → clock_then k r rest ≡ AllClocks us ms → AreOfTimed (a ∷ acts) us
      by_first (Err trap) rest others e f g = cc
      by_first (Ok y) (BadClock j trap) others e f g = cc
      by_first (Ok y) (AllClocks vs ls) others e f g = subst (AreOfTimed (a ∷ acts)) (ap timers_of g) all
        where
          all : AreOfTimed (a ∷ acts) (y.0 ∷ vs)
          all zero t there =
              let same : y.0 ≡ Some t = cc in
              (a, refl, renewed_one (draws k) time seen values (activity_in terms k a.1) a.1.kind x n y t e same was_here)
          all (suc i) t there = others vs ls f (λ j s h. was (suc j) s h) i t there

-- completions
module _ (draw : ℕ → ℕ → ℕ) (p : Part) where
  abbrev net : Net
  net = net_of_part draw p

  abbrev timers_in : List (Option Timer) → Result Done Trap → List (Option Timer)
  timers_in ts (Err trap) = ts
  timers_in ts (Ok d) = d.left.row.timers

  by_effect : (row : Row) (k : ℕ) (a : Activity) (r : Result Effected Trap) (d : Done) → done_by row k a r ≡ Ok d → d.left.row.timers ≡ row.timers
  by_effect row k a (Err trap) d is = cc
  by_effect row k a (Ok e) d is = sym (ap (timers_in row.timers) is)

  done_keeps : (k : ℕ) (l : Local) (d : Done) → net.done 0 k l ≡ Ok d → d.left.row.timers ≡ l.row.timers
  done_keeps k l d is =
      let a = activity_of (leaf_of p) k in
      by_effect l.row k a (a.complete (draw (case_stream (leaf_of p) k) (slice_index l.row.cases k)) l.values) d is

  settle_keeps : (n : ℕ) (l : Local) → (settle net 0 n l).left.row.timers ≡ l.row.timers
  settle_keeps zero l = refl
  settle_keeps (suc n) l = by_found (settle_keeps n) (net.first 0 l.values)
    where
      by_done : ((m : Local) → (settle net 0 n m).left.row.timers ≡ m.row.timers) → (k : ℕ) (r : Result Done Trap) → net.done 0 k l ≡ r → (after_done (settle net 0 n) l k r).left.row.timers ≡ l.row.timers
      by_done go k (Err trap) e = refl
      by_done go k (Ok d) e = go d.left ∙ done_keeps k l d e

      by_found : ((m : Local) → (settle net 0 n m).left.row.timers ≡ m.row.timers) → (f : Found) → (after_found (settle net 0 n) (λ k. net.done 0 k l) l f).left.row.timers ≡ l.row.timers
      by_found go Nothing = refl
      by_found go (Broken k trap) = refl
      by_found go (Enabled k) = by_done go k (net.done 0 k l) refl

-- a piece
module _ (p : Part) (seed time : ℕ) (base : LeafState) (shared : List ℕ) (was : HasTimed p base.row) where
  abbrev of_part : Net
  of_part = net_of_part (draw_of seed) p

  fires : (k : ℕ) (l : Local) (r : Result Done Trap) → l.row.timers ≡ slice_set base.row.timers k None → of_part.done 0 k l ≡ r → HasTimed p (fired_outcome of_part 63 0 base k r).state.row
  fires k l (Err trap) dropped e = was
  fires k l (Ok d) dropped e =
      subst (AreOfTimed p.atomic.acts) (sym (settle_keeps (draw_of seed) p 63 d.left ∙ done_keeps (draw_of seed) p k l d e ∙ dropped))
      (λ i t there. was i t (dropped_there base.row.timers k i t there))

  abbrev values : List ℕ
  values = leaf_view (part_of of_part 0) base.values shared

  abbrev clocks : Clocks
  clocks = renewed_acts (λ k. draw_of seed (delay_stream (leaf_of p) k)) time base.seen values 0 (activities_from p.atomic.impulses 0 p.atomic.acts) base.row.timers base.row.delays

  renews : (c : Clocks) → clocks ≡ c → HasTimed p (renewed_outcome of_part 0 base values (row_of_clocks base.row.cases c)).state.row
  renews (BadClock k trap) e = was
  renews (AllClocks us ms) e = renewed_all (λ k. draw_of seed (delay_stream (leaf_of p) k)) time base.seen values p.atomic.impulses 0 p.atomic.acts base.row.timers base.row.delays us ms e was

  by_kind : (kind : Kind) → HasTimed p (piece_in p seed kind time base shared).state.row
  unfolding without_timer
  by_kind Settle = subst (AreOfTimed p.atomic.acts) (sym (settle_keeps (draw_of seed) p 64 (sees of_part 0 base shared))) was
  by_kind (Fire k) = fires k (dropped of_part (sees of_part 0 base shared) k) (of_part.done 0 k (dropped of_part (sees of_part 0 base shared) k)) refl refl
  by_kind Refresh = renews clocks refl

pub pieces_keep_timed : (p : Part) → PiecesKeepTimed p
pieces_keep_timed p seed kind time base shared was = by_kind p seed time base shared was kind
