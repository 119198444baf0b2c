-- What a piece makes of its leaf's values: as many, each a number of tokens; and of what the leaf has seen.
use Rattle.std.proofs.Common.{ℕ, zero, suc, ◌≤◌, ◌≡◌, ◌⊎◌, ◌∙◌, inl, inr, ap, sym, refl, subst, arith, All, List, [], ◌∷◌, length, Option, Some, None, Bool, true, false, cond}
use Rattle.std.specs.Prelude.{Result, Ok, Err, slice_get, slice_set}
use Rattle.std.proofs.lemmas.List.{length-map}
use Rattle.san_base.specs.declared.ending.Trap.{Trap}
use Rattle.san_base.specs.declared.limits.TheConstants.{MAX_TOKENS}
use Rattle.san_core.proofs.Fitting.{paired_some, slots_are}
use Rattle.san_core.proofs.Running.{done_is, part_is}
use Rattle.san_core.proofs.Suiting.{of_none}
use Rattle.san_expr.specs.Concerns.{IsMarking}
use Rattle.san_law.specs.Activity as leaf
use Rattle.san_law.specs.Block.{after_done, after_found, settle}
use Rattle.san_law.specs.Clocks.{some_pair}
use Rattle.san_law.specs.Lawful.{IsLawful}
use Rattle.san_law.specs.Net.{Broken, Done, Enabled, Faulty, Found, Fresh, Local, Net, Nothing, Private, Renewing, Row, Shared, Slot, Timer, without_timer}
use Rattle.san_law.specs.Network.{Limits}
use Rattle.san_law.specs.Piece.{Fire, Kind, LeafState, Refresh, Settle, dropped, fired_outcome, leaf_view, own, piece_of, privates, renewed_outcome, sees}
use Rattle.san_law.specs.State.{part_of}
use Rattle.san_leaf.specs.Fits.{IsPaired}
use Rattle.san_leaf.specs.Pieces.{slots_in}
use Rattle.san_net.specs.Instants.{Named}
use Rattle.san_net.specs.Laid.{IsNetwork}
use Rattle.san_net.specs.Leaf as net
use Rattle.san_net.specs.Network.{Network, net_of}
use Rattle.san_net.specs.declared.part.Part.{Part}
use Rattle.san_reward.proofs.Making.{with_first}

-- a state fits its part, but for the numbers of draws
pub record ValuesFit (p : Part) (s : LeafState) : Type 0 where
  pub values : length s.values ≡ length (privates (slots_in p))
  pub small : All (λ v. v ≤ MAX_TOKENS) s.values
  pub seen : (s.seen ≡ []) ⊎ (length s.seen ≡ length p.atomic.initial)
  pub paired : (k : ℕ) (a : Named) (t : Timer) → slice_get p.atomic.acts k ≡ Some a → IsPaired a.1.kind → slice_get s.row.timers k ≡ Some (Some t) → length s.seen ≡ length p.atomic.initial

-- what a leaf sees
view_long : (ss : List Slot) (values shared : List ℕ) → length (leaf_view ss values shared) ≡ length ss
view_long [] values shared = refl
view_long (Shared q ∷ ss) values shared = ap suc (view_long ss values shared)
view_long (Private q ∷ ss) [] shared = ap suc (view_long ss [] shared)
view_long (Private q ∷ ss) (v ∷ values) shared = ap suc (view_long ss values shared)

view_small : (ss : List Slot) (values shared : List ℕ) → All (λ v. v ≤ MAX_TOKENS) values → IsMarking shared → IsMarking (leaf_view ss values shared)
view_small [] values shared h m i = omega arith
view_small (Shared q ∷ ss) values shared h m zero = m q
view_small (Shared q ∷ ss) values shared h m (suc i) = view_small ss values shared h m i
view_small (Private q ∷ ss) [] shared h m zero = omega arith
view_small (Private q ∷ ss) [] shared h m (suc i) = view_small ss [] shared h m i
view_small (Private q ∷ ss) (v ∷ values) shared h m zero = h 0 v (omega arith)
view_small (Private q ∷ ss) (v ∷ values) shared h m (suc i) = view_small ss values shared (λ k d l. h (suc k) d (omega (arith, l))) m i

-- and what of it is its own
own_long : (ss : List Slot) (vs : List ℕ) → length vs ≡ length ss → length (own ss vs) ≡ length (privates ss)
own_long [] vs l = refl
own_long (s ∷ ss) [] l = absurd (omega (arith, l))
own_long (Private q ∷ ss) (v ∷ vs) l = ap suc (own_long ss vs (omega (arith, l)))
own_long (Shared q ∷ ss) (v ∷ vs) l = own_long ss vs (omega (arith, l))

own_small : (ss : List Slot) (vs : List ℕ) → IsMarking vs → All (λ v. v ≤ MAX_TOKENS) (own ss vs)
own_small [] vs h = of_none (λ v. v ≤ MAX_TOKENS)
own_small (s ∷ ss) [] h = of_none (λ v. v ≤ MAX_TOKENS)
own_small (Private q ∷ ss) (v ∷ vs) h = with_first (λ v. v ≤ MAX_TOKENS) v (own ss vs) (h 0) (own_small ss vs (λ i. h (suc i)))
own_small (Shared q ∷ ss) (v ∷ vs) h = own_small ss vs (λ i. h (suc i))

-- a dropped timer is no other's
dropped_there : (ts : List (Option Timer)) (k i : ℕ) (t : Timer) → slice_get (slice_set ts k None) i ≡ Some (Some t) → slice_get ts i ≡ Some (Some t)
dropped_there [] k i t e = e
dropped_there (x ∷ ts) zero zero t e = cc
dropped_there (x ∷ ts) zero (suc i) t e = e
dropped_there (x ∷ ts) (suc k) zero t e = e
dropped_there (x ∷ ts) (suc k) (suc i) t e = dropped_there ts k i t e

without_there : (r : Row) (k i : ℕ) (t : Timer) → slice_get (without_timer r k).timers i ≡ Some (Some t) → slice_get r.timers i ≡ Some (Some t)
unfolding without_timer
without_there r k i t e = dropped_there r.timers k i t e

-- completions keep as many values, small ones, and the timers
record Keeps (l m : Local) : Type 0 where
  small : IsMarking l.values → IsMarking m.values
  long : length m.values ≡ length l.values
  timers : m.row.timers ≡ l.row.timers

keeps_same : (l : Local) → Keeps l l
keeps_same l = record { small = λ h. h; long = refl; timers = refl }

keeps_then : (a b c : Local) → Keeps a b → Keeps b c → Keeps a c
keeps_then a b c h k = record { small = λ m. k.small (h.small m); long = k.long ∙ h.long; timers = k.timers ∙ h.timers }

module _ (n : Network) (network : IsNetwork n) (draw : ℕ → ℕ → ℕ) (limits : Limits) (law : IsLawful (net_of n draw limits)) (j : ℕ) (p : Part) (is : slice_get n.parts j ≡ Some p) where
  abbrev here : Net
  here = net_of n draw limits

  slots_here : part_of here j ≡ slots_in p
  slots_here = slots_are n.parts j p is

  slots_long : length (part_of here j) ≡ length p.atomic.initial
  slots_long = ap (λ (ss : List Slot). length ss) slots_here ∙ (length-map p.slots net.slot_in ∙ (network.slotted j p is).each)

  done_keeps : (i : ℕ) (l : Local) (x : Done) → here.done j i l ≡ Ok x → Keeps l x.left
  done_keeps i l x e = record { small = (done_is n draw limits j i l x e).small; long = law.keeps j i l x e; timers = law.timers j i l x e }

  settle_keeps : (k : ℕ) (l : Local) → Keeps l (settle here j k l).left
  settle_keeps zero l = keeps_same l
  settle_keeps (suc k) l = by_found (settle_keeps k) (here.first j l.values)
    where
      by_done : ((m : Local) → Keeps m (settle here j k m).left) → (i : ℕ) (r : Result Done Trap) → here.done j i l ≡ r → Keeps l (after_done (settle here j k) l i r).left
      by_done go i (Err trap) e = keeps_same l
      by_done go i (Ok x) e = keeps_then l x.left (settle here j k x.left).left (done_keeps i l x e) (go x.left)

      by_found : ((m : Local) → Keeps m (settle here j k m).left) → (f : Found) → Keeps l (after_found (settle here j k) (λ i. here.done j i l) l f).left
      by_found go Nothing = keeps_same l
      by_found go (Broken i trap) = keeps_same l
      by_found go (Enabled i) = by_done go i (here.done j i l) refl

  -- a piece
  module _ (base : LeafState) (shared : List ℕ) (h : ValuesFit p base) (small : IsMarking shared) where
    abbrev seen : Local
    seen = sees here j base shared

    seen_small : IsMarking seen.values
    seen_small = view_small (part_of here j) base.values shared h.small small

    seen_long : length seen.values ≡ length (part_of here j)
    seen_long = view_long (part_of here j) base.values shared

    -- what completions leave
    left_fits : (l m : Local) → l.values ≡ seen.values → ((k : ℕ) (t : Timer) → slice_get l.row.timers k ≡ Some (Some t) → slice_get base.row.timers k ≡ Some (Some t)) → Keeps l m → ValuesFit p (record { values = own (part_of here j) m.values; row = m.row; seen = base.seen })
    left_fits l m same timers keeps =
        let marked : IsMarking m.values = keeps.small (subst IsMarking (sym same) seen_small) in
        let long : length m.values ≡ length (part_of here j) = keeps.long ∙ (ap (λ (xs : List ℕ). length xs) same ∙ seen_long) in
        record {
          values = own_long (part_of here j) m.values long ∙ ap (λ (ss : List Slot). length (privates ss)) slots_here;
          small = own_small (part_of here j) m.values marked;
          seen = h.seen;
          paired = λ k a t there pair at. h.paired k a t there pair (timers k t (ap (λ (ts : List (Option Timer)). slice_get ts k) (sym keeps.timers) ∙ at));
        }

    fired_values : (i : ℕ) (r : Result Done Trap) → here.done j i (dropped here seen i) ≡ r → ValuesFit p (fired_outcome here 63 j base i r).state
    fired_values i (Err trap) e = h
    fired_values i (Ok x) e =
        left_fits (dropped here seen i) (settle here j 63 x.left).left refl (λ k t at. without_there base.row i k t at)
        (keeps_then (dropped here seen i) x.left (settle here j 63 x.left).left (done_keeps i (dropped here seen i) x e) (settle_keeps 63 x.left))

    -- a renewal
    paired_here : (k : ℕ) (a : Named) → slice_get p.atomic.acts k ≡ Some a → IsPaired a.1.kind → here.paired j ≡ true
    paired_here k a there pair = ap (λ (q : leaf.Part). some_pair q.activities) (part_is n.parts j p is) ∙ paired_some p.atomic.impulses 0 p.atomic.acts k a there pair

    values_long : length seen.values ≡ length p.atomic.initial
    values_long = seen_long ∙ slots_long

    kept_seen : (b : Bool) → (cond b seen.values [] ≡ []) ⊎ (length (cond b seen.values []) ≡ length p.atomic.initial)
    kept_seen true = inr values_long
    kept_seen false = inl refl

    kept_long : (b : Bool) → b ≡ true → length (cond b seen.values []) ≡ length p.atomic.initial
    kept_long true e = values_long
    kept_long false e = absurd (cc)

    renewed_values : (r : Renewing) → ValuesFit p (renewed_outcome here j base seen.values r).state
    renewed_values (Faulty i trap) = h
    renewed_values (Fresh r) = record {
      values = h.values;
      small = h.small;
      seen = kept_seen (here.paired j);
      paired = λ k a t there pair at. kept_long (here.paired j) (paired_here k a there pair);
    }

    pub piece_values : (kind : Kind) (time : ℕ) → ValuesFit p (piece_of here j kind time base shared).state
    piece_values Settle time = left_fits seen (settle here j 64 seen).left refl (λ k t at. at) (settle_keeps 64 seen)
    piece_values (Fire i) time = fired_values i (here.done j i (dropped here seen i)) refl
    piece_values Refresh time = renewed_values (here.renewed j time base.seen seen)
