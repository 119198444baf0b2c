-- The needed piece of a core can be taken without memory.
use Rattle.std.proofs.Common.{ℕ, zero, suc, ◌<◌, ◌≤◌, ◌≡◌, ◌∙◌, ap, sym, refl, subst, All, List, [], ◌∷◌, length, map, Option, Some, None, Bool, true, false, arith, nat_le, cond}
use Rattle.std.specs.Prelude.{Result, Ok, Err, take}
use Rattle.std.proofs.lemmas.Bool.{leb-true}
use Rattle.std.proofs.lemmas.List.{length-set, length-take}
use Rattle.san_base.specs.declared.ending.Trap.{Trap}
use Rattle.san_law.specs.Net.{Broken, Done, Enabled, Faulty, Found, Fresh, Local, Net, Nothing, Private, Renewing, Row, Shared, Slot, Timer, without_timer}
use Rattle.san_law.specs.State.{State, part_of, place_of}
use Rattle.san_law.specs.Step.{Event}
use Rattle.san_law.specs.Renewal.{Due, least_from}
use Rattle.san_law.specs.Block.{Block, Completion, after_done, after_found, before, completion_of, settle}
use Rattle.san_law.specs.Piece.{Fire, Kind, LeafState, Refresh, Settle, dropped, fired_outcome, leaf_view, outcome_of, piece_of, renewed_outcome, sees, with_write, writes_from}
use Rattle.san_law.specs.Order.{Finished, Need, Needs, first_true, need_due, need_going, need_of, need_stale, need_unsettled}
use Rattle.san_law.specs.Core.{Core, leaf_of}
use Rattle.san_law.specs.Lawful.{AllApart, AllBelow, IsLaid, IsLawful}
use Rattle.san_law.specs.Standing.{Stands}
use Rattle.san_law.proofs.Least.{least_is_before}
use Rattle.san_law.proofs.Orders.{due_within}
use Rattle.san_reward.proofs.Making.{with_first}
use Rattle.san_core.specs.inner.Suits.{FitsLists, Renews, Suits}

-- what holds of what the items are made into
pub all_of : {X Y : Type 0} (P : Y → Type 0) (f : X → Y) (xs : List X) → All P (map f xs) → All (λ x. P (f x)) xs
all_of P f [] h k d l = absurd (omega (arith, l))
all_of P f (x ∷ xs) h zero d l = h 0 (f x) (omega arith)
all_of P f (x ∷ xs) h (suc k) d l = all_of P f xs (λ i e m. h (suc i) e (omega (arith, m))) k d (omega (arith, l))

pub of_none : {X : Type 0} (P : X → Type 0) → All P []
of_none P k d l = absurd (omega (arith, l))

module _ (net : Net) (law : IsLawful net) (bounded : FitsLists net) where
  -- completions as the code's lists hold them
  record Good (n : ℕ) (cs : List Completion) : Type 0 where
    few : length cs ≤ n
    impulses : All (λ k. length k.impulses ≤ 1024) cs
    rewards : All (λ k. All (λ x. x.reward < length net.spans) k.impulses) cs

  none_good : (n : ℕ) → Good n []
  none_good n = record { few = omega arith; impulses = of_none (λ k. length k.impulses ≤ 1024); rewards = of_none (λ k. All (λ x. x.reward < length net.spans) k.impulses) }

  one_good : (j k n : ℕ) (l : Local) (d : Done) (cs : List Completion) → net.done j k l ≡ Ok d → Good n cs → Good (suc n) (completion_of k d ∷ cs)
  one_good j k n l d cs is h = record {
    few = omega (arith, h.few);
    impulses = with_first (λ x. length x.impulses ≤ 1024) (completion_of k d) cs (law.few j k l d is) h.impulses;
    rewards = with_first (λ x. All (λ y. y.reward < length net.spans) x.impulses) (completion_of k d) cs (bounded.known j k l d is) h.rewards;
  }

  done_good : (j k n : ℕ) (l : Local) (go : Local → Block) → ((m : Local) → Good n (go m).completions) → (r : Result Done Trap) → net.done j k l ≡ r → Good (suc n) (after_done go l k r).completions
  done_good j k n l go h (Err trap) is = none_good (suc n)
  done_good j k n l go h (Ok d) is = one_good j k n l d (go d.left).completions is (h d.left)

  found_good : (j n : ℕ) (l : Local) (go : Local → Block) → ((m : Local) → Good n (go m).completions) → (f : Found) → Good (suc n) (after_found go (λ k. net.done j k l) l f).completions
  found_good j n l go h Nothing = none_good (suc n)
  found_good j n l go h (Broken k trap) = none_good (suc n)
  found_good j n l go h (Enabled k) = done_good j k n l go h (net.done j k l) refl

  settle_good : (j n : ℕ) (l : Local) → Good n (settle net j n l).completions
  settle_good j zero l = none_good 0
  settle_good j (suc n) l = found_good j n l (settle net j n) (settle_good j n) (net.first j l.values)

  fired_good : (j k n : ℕ) (l : Local) (base : LeafState) (r : Result Done Trap) → net.done j k l ≡ r → Good (suc n) (fired_outcome net n j base k r).completions
  fired_good j k n l base (Err trap) is = none_good (suc n)
  fired_good j k n l base (Ok d) is = one_good j k n l d (settle net j n d.left).completions is (settle_good j n d.left)

  renewed_good : (j n : ℕ) (base : LeafState) (values : List ℕ) (r : Renewing) → Good n (renewed_outcome net j base values r).completions
  renewed_good j n base values (Faulty k trap) = none_good n
  renewed_good j n base values (Fresh r) = none_good n

  piece_good : (j : ℕ) (kind : Kind) (time : ℕ) (base : LeafState) (shared : List ℕ) → Good 64 (piece_of net j kind time base shared).completions
  piece_good j Settle time base shared = settle_good j 64 (sees net j base shared)
  piece_good j (Fire k) time base shared = fired_good j k 63 (dropped net (sees net j base shared) k) base (net.done j k (dropped net (sees net j base shared) k)) refl
  piece_good j Refresh time base shared = renewed_good j 64 base (leaf_view (part_of net j) base.values shared) (net.renewed j time base.seen (sees net j base shared))

  -- writes are of shared places, and no more than the leaf has places
  record Written (n m slots : ℕ) (ws : List (ℕ × ℕ)) : Type 0 where
    places : All (λ w. (w.0 < n) × (w.0 < m)) ws
    few : length ws ≤ slots

  none_written : (n m slots : ℕ) → Written n m slots []
  none_written n m slots = record { places = of_none (λ w. (w.0 < n) × (w.0 < m)); few = omega arith }

  one_written : (n m slots : ℕ) (b : Bool) (w : ℕ × ℕ) (ws : List (ℕ × ℕ)) → w.0 < n → w.0 < m → Written n m slots ws → Written n m (suc slots) (with_write b w ws)
  one_written n m slots true w ws a c h = record { places = with_first (λ w. (w.0 < n) × (w.0 < m)) w ws (a, c) h.places; few = omega (arith, h.few) }
  one_written n m slots false w ws a c h = record { places = h.places; few = omega (arith, h.few) }

  writes_written : (n m : ℕ) (others : ℕ → Type 0) (sets : ℕ → Bool) (p : ℕ) (ss : List Slot) (vs : List ℕ) → AllApart n others ss → AllBelow (map place_of ss) m → Written n m (length ss) (writes_from sets p ss vs)
  writes_written n m others sets p [] vs a b = none_written n m 0
  writes_written n m others sets p (s ∷ ss) [] a b = none_written n m (suc (length ss))
  writes_written n m others sets p (Private q ∷ ss) (v ∷ vs) a b = let h = writes_written n m others sets (suc p) ss vs a.2 b.1 in record { places = h.places; few = omega (arith, h.few) }
  writes_written n m others sets p (Shared q ∷ ss) (v ∷ vs) a b = one_written n m (length ss) (sets p) (q, v) (writes_from sets (suc p) ss vs) a.0 b.0 (writes_written n m others sets (suc p) ss vs a.1 b.1)

  -- completions change no timer, a fired one drops its own
  done_timers : (j k n : ℕ) (l : Local) (go : Local → Block) → ((m : Local) → length (go m).left.row.timers ≡ length m.row.timers) → (r : Result Done Trap) → net.done j k l ≡ r → length (after_done go l k r).left.row.timers ≡ length l.row.timers
  done_timers j k n l go h (Err trap) is = refl
  done_timers j k n l go h (Ok d) is = h d.left ∙ ap (λ (ts : List (Option Timer)). length ts) (law.timers j k l d is)

  found_timers : (j n : ℕ) (l : Local) (go : Local → Block) → ((m : Local) → length (go m).left.row.timers ≡ length m.row.timers) → (f : Found) → length (after_found go (λ k. net.done j k l) l f).left.row.timers ≡ length l.row.timers
  found_timers j n l go h Nothing = refl
  found_timers j n l go h (Broken k trap) = refl
  found_timers j n l go h (Enabled k) = done_timers j k n l go h (net.done j k l) refl

  settle_timers : (j n : ℕ) (l : Local) → length (settle net j n l).left.row.timers ≡ length l.row.timers
  settle_timers j zero l = refl
  settle_timers j (suc n) l = found_timers j n l (settle net j n) (settle_timers j n) (net.first j l.values)

  dropped_timers : (r : Row) (k : ℕ) → length (without_timer r k).timers ≡ length r.timers
  unfolding without_timer
  dropped_timers r k = length-set r.timers k None

  fired_timers : (j k n : ℕ) (l : Local) (base : LeafState) (r : Result Done Trap) → net.done j k l ≡ r → length l.row.timers ≡ length base.row.timers → length (fired_outcome net n j base k r).state.row.timers ≡ length base.row.timers
  fired_timers j k n l base (Err trap) is h = refl
  fired_timers j k n l base (Ok d) is h = settle_timers j n d.left ∙ (ap (λ (ts : List (Option Timer)). length ts) (law.timers j k l d is) ∙ h)

  renewed_timers : (j time : ℕ) (base : LeafState) (l : Local) (values : List ℕ) (r : Renewing) → net.renewed j time base.seen l ≡ r → l.row ≡ base.row → length (renewed_outcome net j base values r).state.row.timers ≡ length base.row.timers
  renewed_timers j time base l values (Faulty k trap) is h = refl
  renewed_timers j time base l values (Fresh r) is h = bounded.timers j time base.seen l r is ∙ ap (λ (x : Row). length x.timers) h

  piece_timers : (j : ℕ) (kind : Kind) (time : ℕ) (base : LeafState) (shared : List ℕ) → length (piece_of net j kind time base shared).state.row.timers ≡ length base.row.timers
  piece_timers j Settle time base shared = settle_timers j 64 (sees net j base shared)
  piece_timers j (Fire k) time base shared = fired_timers j k 63 (dropped net (sees net j base shared) k) base (net.done j k (dropped net (sees net j base shared) k)) refl (dropped_timers base.row k)
  piece_timers j Refresh time base shared = renewed_timers j time base (sees net j base shared) (leaf_view (part_of net j) base.values shared) (net.renewed j time base.seen (sees net j base shared)) refl refl

  -- writes over a marking of so many places
  module _ (m : ℕ) (laid : IsLaid net m) where
    abbrev WrittenHere : ℕ → List (ℕ × ℕ) → Type 0
    WrittenHere j ws = Written net.shared m (length (part_of net j)) ws

    later_is : (j : ℕ) → suc j ≡ j → ⊥
    later_is j e = omega (arith, e)

    block_written : (j : ℕ) (seen : List ℕ) (b : Block) → WrittenHere j (outcome_of net j seen b).writes
    block_written j seen b = writes_written net.shared m _ b.sets 0 (part_of net j) b.left.values (laid.apart j (suc j) (later_is j)) (laid.below j)

    fired_written : (j k n : ℕ) (base : LeafState) (r : Result Done Trap) → WrittenHere j (fired_outcome net n j base k r).writes
    fired_written j k n base (Err trap) = none_written net.shared m (length (part_of net j))
    fired_written j k n base (Ok d) = block_written j base.seen (before k d (settle net j n d.left))

    renewed_written : (j : ℕ) (base : LeafState) (values : List ℕ) (r : Renewing) → WrittenHere j (renewed_outcome net j base values r).writes
    renewed_written j base values (Faulty k trap) = none_written net.shared m (length (part_of net j))
    renewed_written j base values (Fresh r) = none_written net.shared m (length (part_of net j))

    piece_written : (j : ℕ) (kind : Kind) (time : ℕ) (base : LeafState) (shared : List ℕ) → WrittenHere j (piece_of net j kind time base shared).writes
    piece_written j Settle time base shared = block_written j base.seen (settle net j 64 (sees net j base shared))
    piece_written j (Fire k) time base shared = fired_written j k 63 base (net.done j k (dropped net (sees net j base shared) k))
    piece_written j Refresh time base shared = renewed_written j base (leaf_view (part_of net j) base.values shared) (net.renewed j time base.seen (sees net j base shared))

  module _ (places : ℕ) (laid : IsLaid net places) (opening : State) (past : List Event) (c : Core) (s : State) (st : Stands net opening past c s) where
    -- a need is at the order's time, but for a timer, which isn't due before it
    record Timed (kind : Kind) (time : ℕ) : Type 0 where
      early : c.order.time ≤ time
      timely : time ≤ net.horizon
      renews : kind ≡ Refresh → time ≡ c.order.time

    abbrev TimedBy : Need → Type 0
    TimedBy (Needs j kind time) = Timed kind time
    TimedBy Finished = Unit {0}

    now_timed : (kind : Kind) → Timed kind c.order.time
    now_timed kind = record { early = omega arith; timely = st.counts.timely; renews = λ e. refl }

    fire_timed : (d : Due) → least_from 0 c.order.dues ≡ Some d → (b : Bool) → nat_le d.time net.horizon ≡ b → TimedBy (cond b (Needs d.leaf (Fire d.act) d.time) Finished)
    fire_timed d is true timely =
        let within : d.leaf < length net.parts = omega (arith, due_within c.order.dues d is, st.holds.sized.timers) in
        let at = (least_is_before c.order.dues d is).0 in
        let late = st.holds.late d.leaf within (d.time, d.act) (sym (st.holds.dues d.leaf within) ∙ at) in
        record { early = omega (arith, st.holds.time, late); timely = leb-true d.time net.horizon timely; renews = λ e. absurd (cc) }
    fire_timed d is false timely = tt

    due_timed : (x : Option Due) → least_from 0 c.order.dues ≡ x → TimedBy (need_due net.horizon x)
    due_timed None is = tt
    due_timed (Some d) is = fire_timed d is (nat_le d.time net.horizon) refl

    stale_timed : (x : Option ℕ) → TimedBy (need_stale net.horizon c.order x)
    stale_timed None = due_timed (least_from 0 c.order.dues) refl
    stale_timed (Some j) = now_timed Refresh

    unsettled_timed : (x : Option ℕ) → TimedBy (need_unsettled net.horizon c.order x)
    unsettled_timed None = stale_timed (first_true 0 c.order.stale)
    unsettled_timed (Some j) = now_timed Settle

    going_timed : (x : Option ℕ) → TimedBy (need_going net.horizon c.order x)
    going_timed None = unsettled_timed (first_true 0 c.order.unsettled)
    going_timed (Some j) = now_timed Settle

    need_timed : TimedBy (need_of net.horizon c.order)
    unfolding need_of
    need_timed = going_timed c.order.going

    renewal_renews : (time j : ℕ) (base : LeafState) (values : List ℕ) (r : Renewing) → time ≡ c.order.time → Renews net c.order.time time j (renewed_outcome net j base values r)
    renewal_renews time j base values (Faulty k trap) at = record { completions = refl; writes = refl; time_is = at; rates = λ e. absurd (cc) }
    renewal_renews time j base values (Fresh r) at = record { completions = refl; writes = refl; time_is = at; rates = λ e. bounded.rates j values }

    piece_renews : (j : ℕ) (kind : Kind) (time : ℕ) (base : LeafState) (shared : List ℕ) → (kind ≡ Refresh → time ≡ c.order.time) → kind ≡ Refresh → Renews net c.order.time time j (piece_of net j kind time base shared)
    piece_renews j Settle time base shared at is = absurd cc
    piece_renews j (Fire k) time base shared at is = absurd cc
    piece_renews j Refresh time base shared at is = renewal_renews time j base (leaf_view (part_of net j) base.values shared) (net.renewed j time base.seen (sees net j base shared)) (at refl)

    pub needed_suits : (j : ℕ) (kind : Kind) (time : ℕ) → need_of net.horizon c.order ≡ Needs j kind time → Suits net (length c.shared) places c.order.time kind time j (leaf_of c j) (piece_of net j kind time (leaf_of c j) c.shared)
    needed_suits j kind time need =
        let at : Timed kind time = subst TimedBy need need_timed in
        let good = piece_good j kind time (leaf_of c j) c.shared in
        let written = piece_written (length s.marking) st.holds.sized.laid j kind time (leaf_of c j) c.shared in
        let within = piece_written places laid j kind time (leaf_of c j) c.shared in
        let long : length c.shared ≡ length (take net.shared s.marking) = ap (λ (xs : List ℕ). length xs) st.holds.shared in
        record {
          few = good.few;
          impulses = good.impulses;
          rewards = good.rewards;
          written = λ k d l. let h = written.places k d l in let w = within.places k d l in (omega (arith, h.0, h.1, long, length-take net.shared s.marking), w.1);
          writes = omega (arith, written.few, bounded.places j);
          early = at.early;
          timely = at.timely;
          renews = piece_renews j kind time (leaf_of c j) c.shared at.renews;
          timers = piece_timers j kind time (leaf_of c j) c.shared;
        }
