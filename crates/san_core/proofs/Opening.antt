-- The first start is a start of the run.
use Rattle.std.proofs.Common.{ℕ, zero, suc, ◌+◌, ◌≡◌, ◌∙◌, ap, sym, subst, refl, List, [], ◌∷◌, length, map, replicate, Option, Some, None, arith}
use Rattle.std.specs.Prelude.{slice_get, slice_index, slice_index_or, take}
use Rattle.std.proofs.lemmas.List.{length-map}
use Rattle.std.proofs.lemmas.Option.{get_or_from_slice_get}
use Rattle.san_law.specs.Activity as leaf
use Rattle.san_law.specs.Core.{Core}
use Rattle.san_law.specs.Lawful.{IsLaid, IsLawful}
use Rattle.san_law.specs.Net.{Net, Rated, Span, Slot}
use Rattle.san_law.specs.Network.{Limits, no_part}
use Rattle.san_law.specs.Opening.{leaves_from, opening_core}
use Rattle.san_law.specs.Piece.{LeafState, own, privates}
use Rattle.san_law.specs.Rates.{with_rates}
use Rattle.san_law.specs.Reward.{zero_sum}
use Rattle.san_law.specs.Starts.{IsStart}
use Rattle.san_law.specs.State as law
use Rattle.san_law.specs.State.{blank_row, blank_rows, gather}
use Rattle.san_law.proofs.AnyRates.{opening_is_start}
use Rattle.san_law.proofs.Places.{own_is}
use Rattle.san_leaf.specs.Pieces.{opened_state, slots_in}
use Rattle.san_net.specs.Laid.{IsNetwork, place_of}
use Rattle.san_net.specs.Leaf.{leaf_of, slot_in}
use Rattle.san_net.specs.Network.{Network, net_of, span_in}
use Rattle.san_net.specs.declared.part.Part.{Part}
use Rattle.san_net.specs.declared.part.Reward.{Reward}
use Rattle.san_net.specs.declared.part.Slot as code
use Rattle.san_reward.specs.Running as tally
use Rattle.san_reward.specs.Running.{Running, no_rates}
use Rattle.san_reward.proofs.Sameness.{opened_of}
use Rattle.san_turn.specs.Changes as turn
use Rattle.san_core.specs.Committed.{StartsRun}
use Rattle.san_core.specs.inner.Held.{committed_by}
use Rattle.san_net.proofs.LaidLemmas.{place_in}
use Rattle.san_net.proofs.PartLemmas.{activities_long}

abbrev acts_or : Option Part → ℕ
acts_or None = 0
acts_or (Some x) = length x.atomic.acts

pub acts_at : (parts : List Part) (j : ℕ) (p : Part) → slice_get parts j ≡ Some p → length (slice_index_or (map leaf_of parts) j no_part).activities ≡ length p.atomic.acts
acts_at [] j p is = absurd cc
acts_at (q ∷ parts) zero p is = activities_long q.atomic.impulses 0 q.atomic.acts ∙ ap acts_or is
acts_at (q ∷ parts) (suc j) p is = acts_at parts j p is

-- a leaf's places have the values that its atomic gives
valued : (ss : List code.Slot) (vs m : List ℕ) → length ss ≡ length vs → ((i place : ℕ) → slice_get (map place_of ss) i ≡ Some place → slice_get m place ≡ slice_get vs i) → gather (map law.place_of (map slot_in ss)) m ≡ vs
valued [] [] m l h = refl
valued [] (v ∷ vs) m l h = absurd (omega (arith, l))
valued (s ∷ ss) [] m l h = absurd (omega (arith, l))
valued (s ∷ ss) (v ∷ vs) m l h =
    let head : slice_index m (place_of s) ≡ v = get_or_from_slice_get m (place_of s) v 0 (h 0 (place_of s) refl) in
    ap (λ (q : ℕ). slice_index m q ∷ gather (map law.place_of (map slot_in ss)) m) (place_in s)
    ∙ (ap (λ (x : ℕ). x ∷ gather (map law.place_of (map slot_in ss)) m) head
    ∙ ap (λ (xs : List ℕ). v ∷ xs) (valued ss vs m (omega (arith, l)) (λ i place is. h (suc i) place is)))

privates_are : (p : Part) (m : List ℕ) → gather (map law.place_of (slots_in p)) m ≡ p.atomic.initial → gather (privates (slots_in p)) m ≡ own (slots_in p) p.atomic.initial
privates_are p m is = sym (own_is (slots_in p) m) ∙ ap (own (slots_in p)) is

abbrev pub parts_of : List Part → List (List Slot)
parts_of ps = map (λ (p : leaf.Part). p.slots) (map leaf_of ps)

abbrev state_of : List ℕ → ℕ → LeafState
state_of values acts = record { values = values; row = blank_row acts; seen = [] }

leaves_are : (net : Net) (m : List ℕ) (j : ℕ) (ps : List Part)
    → ((i : ℕ) (p : Part) → slice_get ps i ≡ Some p → (net.acts (j + i) ≡ length p.atomic.acts) × (gather (privates (slots_in p)) m ≡ own (slots_in p) p.atomic.initial))
    → leaves_from (parts_of ps) (blank_rows net j (parts_of ps)) m ≡ map opened_state ps
leaves_are net m j [] h = refl
leaves_are net m j (p ∷ ps) h =
    let here = h 0 p refl in
    ap (λ (k : ℕ). state_of (gather (privates (slots_in p)) m) (net.acts k) ∷ leaves_from (parts_of ps) (blank_rows net (suc j) (parts_of ps)) m) (none j)
    ∙ (ap (λ (k : ℕ). state_of (gather (privates (slots_in p)) m) k ∷ leaves_from (parts_of ps) (blank_rows net (suc j) (parts_of ps)) m) here.0
    ∙ (ap (λ (vs : List ℕ). state_of vs (length p.atomic.acts) ∷ leaves_from (parts_of ps) (blank_rows net (suc j) (parts_of ps)) m) here.1
    ∙ ap (λ (ls : List LeafState). opened_state p ∷ ls) (leaves_are net m (suc j) ps (λ i q is. let x = h (suc i) q is in (ap net.acts (one j i) ∙ x.0, x.1)))))
  where
    none : (a : ℕ) → a ≡ a + 0
    none a = omega arith

    one : (a b : ℕ) → suc a + b ≡ a + suc b
    one a b = omega arith

sums_are : (rs : List Reward) → replicate (length rs) zero_sum ≡ map (λ (s : Span). zero_sum) (map (λ (r : Reward). span_in r.span) rs)
sums_are [] = refl
sums_are (r ∷ rs) = ap (λ (xs : List Rated). zero_sum ∷ xs) (sums_are rs)

module _ (n : Network) (network : IsNetwork n) where
  part_valued : (j : ℕ) (p : Part) → slice_get n.parts j ≡ Some p → gather (map law.place_of (slots_in p)) n.initial ≡ p.atomic.initial
  part_valued j p is = valued p.slots p.atomic.initial n.initial (network.slotted j p is).each (λ i place at. network.valued j p is i place at)

  module _ (draw : ℕ → ℕ → ℕ) (bounds : Limits) where
    abbrev net : Net
    net = net_of n draw bounds

    opened_leaves : (opening_core net).leaves ≡ map opened_state n.parts
    opened_leaves = leaves_are net n.initial 0 n.parts (λ i p is. (ap net.acts (none i) ∙ acts_at n.parts i p is, privates_are p n.initial (part_valued i p is)))
      where
        none : (i : ℕ) → 0 + i ≡ i
        none i = omega arith

    -- what the first start has
    module _ (horizon : ℕ) (leaves : List LeafState) (shared : List ℕ) (order : turn.OrderValue) (running : Running)
        (leaves_is : leaves ≡ map opened_state n.parts) (shared_is : shared ≡ take n.shared n.initial) (order_is : order ≡ turn.opened net n.parts horizon) (running_is : running ≡ tally.opened n horizon) where
      abbrev core_with : List LeafState → List ℕ → turn.OrderValue → Running → Core
      core_with ls sh o r = (committed_by ls sh o r 0 0 None).core

      abbrev summed : List Rated → Core
      summed ss = record {
        leaves = (opening_core net).leaves;
        shared = take n.shared n.initial;
        order = (opening_core net).order;
        burst = 0;
        count = 0;
        events = [];
        tally = record { rates = map no_rates n.parts; sums = ss; impulses = 0 };
        stop = None;
      }

      pub core_is : core_with leaves shared order running ≡ with_rates (map no_rates n.parts) (opening_core net)
      core_is =
          ap (λ (ls : List LeafState). core_with ls shared order running) (leaves_is ∙ sym opened_leaves)
          ∙ (ap (λ (sh : List ℕ). core_with (opening_core net).leaves sh order running) shared_is
          ∙ (ap (λ (o : turn.OrderValue). core_with (opening_core net).leaves (take n.shared n.initial) o running) order_is
          ∙ (ap (λ (r : Running). core_with (opening_core net).leaves (take n.shared n.initial) (turn.opened net n.parts horizon) r) running_is
          ∙ ap (λ (ss : List Rated). summed ss) (sums_are n.rewards))))

      pub first_starts : IsLawful net → IsLaid net (length n.initial) → horizon ≡ bounds.horizon → StartsRun net n (committed_by leaves shared order running 0 0 None)
      first_starts law laid at = record {
        start = subst (IsStart net) (sym core_is) (opening_is_start net law laid (map no_rates n.parts) (length-map n.parts no_rates ∙ sym (length-map (map leaf_of n.parts) (λ (q : leaf.Part). q.slots) ∙ length-map n.parts leaf_of)));
        belongs = record {
          tally = refl;
          time = ap (λ (r : Running). r.time) running_is ∙ sym (ap (λ (o : turn.OrderValue). o.order.time) order_is);
          of = subst (tally.IsOf net) (sym (running_is ∙ ap (tally.opened n) at)) (opened_of n draw bounds);
          terms = ap (λ (r : Running). length r.terms) running_is ∙ length-map n.parts tally.terms_in;
          firsts = ap (λ (o : turn.OrderValue). o.firsts) order_is;
          horizon = ap (λ (o : turn.OrderValue). o.horizon) order_is ∙ at;
        };
      }
