-- Keys stay low: a call makes those unknown whose leaves' next pieces may come sooner.
use Rattle.std.proofs.Common.{All, ℕ, zero, suc, ◌<◌, ◌≤◌, ◌≡◌, ◌≢◌, ◌⊎◌, ◌∙◌, ◌||◌, inl, inr, ap, sym, refl, subst, arith, Bool, true, false, nat_eq, List, [], ◌∷◌, ◌++◌, length, map, drop, replicate, take, Option, Some, None, slice_index_or, slice_set}
use Rattle.std.specs.Prelude.{slice_index}
use Rattle.std.proofs.lemmas.Bool.{cases_eq}
use Rattle.std.proofs.lemmas.List.{get_or-set_other, get_or-set_same, length-set, map-set}
use Rattle.san_base.proofs.Bools.{or_none}
use Rattle.san_base.proofs.NumberTests.{number_itself, number_turned, other_number}
use Rattle.san_base.specs.declared.numbers.LeafId.{LeafId}
use Rattle.san_base.specs.declared.numbers.PlaceId.{PlaceId}
use Rattle.san_ahead.specs.Ahead.{AheadValue, cut_from, pushed, raised, with_committed, without_head}
use Rattle.san_book.specs.Chains.{AllFit, Chain, chain_of}
use Rattle.san_book.specs.Cores as book
use Rattle.san_book.specs.Cores.{Pending, claim_of, is_claimed}
use Rattle.san_book.specs.Lines.{AreWrites, Line, commit, line_of, put, withdraw, write_of}
use Rattle.san_book.specs.Plans.{free_at}
use Rattle.san_book.proofs.Each.{changed, each_at, length_each}
use Rattle.san_core.specs.Machines.{FollowsRun, IsNeeded, MachineValue, after_taking, core_in, net_in}
use Rattle.san_core.proofs.Bounding.{networks_are_bounded}
use Rattle.san_core.proofs.Following as follow
use Rattle.san_core.proofs.Following.{core_then}
use Rattle.san_core.proofs.Retaking.{with_spare}
use Rattle.san_core.proofs.Suiting.{needed_suits, of_none}
use Rattle.san_decide.specs.Booked.{of_piece, part_at}
use Rattle.san_draw.specs.Key.{draw_of}
use Rattle.san_law.specs.Core as law
use Rattle.san_law.specs.Core.{leaf_of, taken}
use Rattle.san_law.specs.Order.{Needs, any_in, need_of, places_of, touches}
use Rattle.san_law.specs.Piece.{Kind}
use Rattle.san_law.specs.State.{opening_state, part_of, slots_of}
use Rattle.san_law.proofs.Frames.{others_stay}
use Rattle.san_leaf.specs.Pieces.{IsSound, PieceValue}
use Rattle.san_leaf.specs.States.{kind_in, pair_in}
use Rattle.san_line.specs.Ordered.{IsOrdered}
use Rattle.san_net.specs.Network.{Network}
use Rattle.san_net.specs.Runs.{limits_in}
use Rattle.san_net.specs.Tables.{importers_of}
use Rattle.san_net.specs.declared.part.Part.{Part}
use Rattle.san_reward.proofs.Making.{with_first}
use Rattle.san_turn.proofs.Raised.{any_leaf, any_place}
use Rattle.san_turn.proofs.Spread.{place_there}
use Rattle.san_plan.specs.Soonest.{NoLater, key_of}
use Rattle.san_plan.proofs.Frees.{AreOrdered, AreUnwritten, OrderStays, claimed_less, claimed_more, fit_drop, free_rises, order_same, rise_then, same_lines, tail_rises, unwritten_rise}
use Rattle.san_plan.proofs.Orders.{order_stays, unwritten}
use Rattle.san_plan.proofs.Planned.{part_there}
use Rattle.san_plan.proofs.Rising.{LinesRise, no_later_self, no_later_then}
use Rattle.san_speculation.specs.Speculating.{book_in, claim_in}
use Rattle.san_speculation.specs.inner.Claiming.{free_time}
use Rattle.san_speculation.specs.inner.Soonest.{AreLow, KeepsLow, touched, touched_all}
use Rattle.san_speculation.proofs.Speculated.{IsRun, shared_within}

-- what nothing comes before
zero_low : (x : Option ℕ) → NoLater (Some 0) x
zero_low None = tt
zero_low (Some t) = omega arith

-- keys keep their number
pub touched_long : (leaves : List LeafId) (keys : List (Option ℕ)) → length (touched leaves keys) ≡ length keys
touched_long [] keys = refl
touched_long (l ∷ ls) keys = touched_long ls (slice_set keys l.0 (Some 0)) ∙ length-set keys l.0 (Some 0)

pub touched_all_long : (parts : List Part) (ws : List (PlaceId × ℕ)) (keys : List (Option ℕ)) → length (touched_all parts ws keys) ≡ length keys
touched_all_long parts [] keys = refl
touched_all_long parts (w ∷ ws) keys = touched_all_long parts ws (touched (importers_of parts w.0.0) keys) ∙ touched_long (importers_of parts w.0.0) keys

-- leaf by leaf and write by write
pub touched_next : (leaves : List LeafId) (i j : ℕ) (d : LeafId) (keys : List (Option ℕ)) → j ≡ suc i → i < length leaves → touched (drop i leaves) keys ≡ touched (drop j leaves) (slice_set keys (slice_index_or leaves i d).0 (Some 0))
touched_next leaves i j d keys e l = here leaves i l ∙ ap (λ (n : ℕ). touched (drop n leaves) (slice_set keys (slice_index_or leaves i d).0 (Some 0))) (sym e)
  where
    here : (xs : List LeafId) (k : ℕ) → k < length xs → touched (drop k xs) keys ≡ touched (drop (suc k) xs) (slice_set keys (slice_index_or xs k d).0 (Some 0))
    here [] k l = absurd (omega (arith, l))
    here (x ∷ xs) zero l = refl
    here (x ∷ xs) (suc k) l = here xs k (omega (arith, l))

pub touched_all_next : (parts : List Part) (ws : List (PlaceId × ℕ)) (i j : ℕ) (d : PlaceId × ℕ) (keys : List (Option ℕ)) → j ≡ suc i → i < length ws → touched_all parts (drop i ws) keys ≡ touched_all parts (drop j ws) (touched (importers_of parts (slice_index_or ws i d).0.0) keys)
touched_all_next parts ws i j d keys e l = here ws i l ∙ ap (λ (n : ℕ). touched_all parts (drop n ws) (touched (importers_of parts (slice_index_or ws i d).0.0) keys)) (sym e)
  where
    here : (xs : List (PlaceId × ℕ)) (k : ℕ) → k < length xs → touched_all parts (drop k xs) keys ≡ touched_all parts (drop (suc k) xs) (touched (importers_of parts (slice_index_or xs k d).0.0) keys)
    here [] k l = absurd (omega (arith, l))
    here (x ∷ xs) zero l = refl
    here (x ∷ xs) (suc k) l = here xs k (omega (arith, l))

pub all_next : {X : Type 0} (P : X → Type 0) (xs : List X) (i j : ℕ) → j ≡ suc i → All P (drop i xs) → All P (drop j xs)
all_next {X = X} P xs i j e h = subst (λ (n : ℕ). All P (drop n xs)) (sym e) (here xs i h)
  where
    here : (ys : List X) (k : ℕ) → All P (drop k ys) → All P (drop (suc k) ys)
    here [] zero all = all
    here [] (suc k) all = all
    here (y ∷ ys) zero all = λ k d l. all (suc k) d (omega (arith, l))
    here (y ∷ ys) (suc k) all = here ys k all

-- keys that are set one after another
pub set_next : {X : Type 0} (x y : X) (k j m n : ℕ) → j ≡ suc k → m ≡ suc n → slice_set (replicate k x ++ replicate m y) k x ≡ replicate j x ++ replicate n y
set_next x y k j m n e f =
    ap (λ (i : ℕ). slice_set (replicate k x ++ replicate i y) k x) f ∙ (here k ∙ ap (λ (i : ℕ). replicate i x ++ replicate n y) (sym e))
  where
    here : (i : ℕ) → slice_set (replicate i x ++ replicate (suc n) y) i x ≡ replicate (suc i) x ++ replicate n y
    here zero = refl
    here (suc i) = ap (λ ys. x ∷ ys) (here i)

-- a key isn't known, or is as before and its leaf isn't among those
abbrev IsTouched : List (Option ℕ) → List (Option ℕ) → ℕ → Bool → Type 0
IsTouched old new i hit = (key_of new i ≡ Some 0) ⊎ ((key_of new i ≡ key_of old i) × (hit ≡ false))

one_touched : (keys : List (Option ℕ)) (j i : ℕ) → i < length keys → (i ≡ j) ⊎ (i ≢ j) → IsTouched keys (slice_set keys j (Some 0)) i (nat_eq i j)
one_touched keys j i l (inl e) = inl (ap (key_of (slice_set keys j (Some 0))) e ∙ get_or-set_same keys j (Some 0) None (subst (λ (n : ℕ). n < length keys) e l))
one_touched keys j i l (inr d) = inr (get_or-set_other keys j i (Some 0) None d, other_number i j d)

both_off : (a b : Bool) → a ≡ false → b ≡ false → (a || b) ≡ false
both_off false b e f = f
both_off true b e f = absurd (cc)

then_touched : (old mid new : List (Option ℕ)) (i : ℕ) (a b : Bool) → IsTouched old mid i a → IsTouched mid new i b → IsTouched old new i (a || b)
then_touched old mid new i a b h (inl e) = inl e
then_touched old mid new i a b (inl e) (inr k) = inl (k.0 ∙ e)
then_touched old mid new i a b (inr h) (inr k) = inr (k.0 ∙ h.0, both_off a b h.1 k.1)

leaves_touched : (leaves : List LeafId) (keys : List (Option ℕ)) (i : ℕ) → i < length keys → IsTouched keys (touched leaves keys) i (any_leaf i leaves)
leaves_touched [] keys i l = inr (refl, refl)
leaves_touched (x ∷ xs) keys i l =
    let mid = slice_set keys x.0 (Some 0) in
    then_touched keys mid (touched xs mid) i (nat_eq i x.0) (any_leaf i xs) (one_touched keys x.0 i l (cases_eq i x.0)) (leaves_touched xs mid i (let e = length-set keys x.0 (Some 0) in omega (arith, l, e)))

abbrev place_in : PlaceId × ℕ → PlaceId
place_in w = w.0

all_touched : (parts : List Part) (ws : List (PlaceId × ℕ)) (keys : List (Option ℕ)) (i : ℕ) → i < length keys → IsTouched keys (touched_all parts ws keys) i (any_place parts i (map place_in ws))
all_touched parts [] keys i l = inr (refl, refl)
all_touched parts (w ∷ ws) keys i l =
    let mid = touched (importers_of parts w.0.0) keys in
    then_touched keys mid (touched_all parts ws mid) i (any_leaf i (importers_of parts w.0.0)) (any_place parts i (map place_in ws)) (leaves_touched (importers_of parts w.0.0) keys i l) (all_touched parts ws mid i (let e = touched_long (importers_of parts w.0.0) keys in omega (arith, l, e)))

-- so keys stay low where only those come sooner
module _ (m n : MachineValue) (a b : AheadValue) (claims others : List (Option Pending)) (keys : List (Option ℕ)) (j : ℕ) (parts : List Part) (ws : List (PlaceId × ℕ)) where
  abbrev news : List (Option ℕ)
  news = touched_all parts ws (slice_set keys j (Some 0))

  key_low : (i : ℕ) (x y : Option ℕ) → NoLater (key_of keys i) x → ((nat_eq i j || any_place parts i (map place_in ws)) ≡ false → NoLater x y) → IsTouched keys news i (nat_eq i j || any_place parts i (map place_in ws)) → NoLater (key_of news i) y
  key_low i x y h f (inl e) = subst (λ (k : Option ℕ). NoLater k y) (sym e) (zero_low y)
  key_low i x y h f (inr k) = subst (λ (o : Option ℕ). NoLater o y) (sym k.0) (no_later_then (key_of keys i) x y h (f k.1))

  pub keys_keep : length b.chains ≡ length a.chains → (n.held.core.stop ≡ None → m.held.core.stop ≡ None)
      → (n.held.core.stop ≡ None → (i : ℕ) → i < length a.chains → nat_eq i j ≡ false → any_place parts i (map place_in ws) ≡ false → NoLater (free_time m a claims i) (free_time n b others i))
      → AreLow m a claims keys → AreLow n b others news
  keys_keep long goes rises h =
      let same : length (slice_set keys j (Some 0)) ≡ length keys = length-set keys j (Some 0) in
      record {
        long = touched_all_long parts ws (slice_set keys j (Some 0)) ∙ (same ∙ (h.long ∙ sym long));
        low = λ stop i l.
            let within : i < length a.chains = omega (arith, l, long) in
            let inside : i < length keys = let k = h.long in omega (arith, within, k) in
            key_low i (free_time m a claims i) (free_time n b others i) (h.low (goes stop) i within)
            (λ off. let k = or_none (nat_eq i j) (any_place parts i (map place_in ws)) off in rises stop i within k.0 k.1)
            (then_touched keys (slice_set keys j (Some 0)) news i (nat_eq i j) (any_place parts i (map place_in ws)) (one_touched keys j i inside (cases_eq i j))
            (all_touched parts ws (slice_set keys j (Some 0)) i (omega (arith, inside, same))));
      }

-- a core of these parts
abbrev core_of : MachineValue → AheadValue → List (Option Pending) → book.Core law.Core PieceValue
core_of m a claims = record { held = core_in m; chains = a.chains; counters = a.counters; lines = a.lines; claims = claims; journal = []; rollbacks = 0; taken = m.taken }

-- over one machine
module _ (m : MachineValue) (a b : AheadValue) (claims others : List (Option Pending)) (i : ℕ) where
  pub free_stays : chain_of b.chains i ≡ chain_of a.chains i → (is_claimed i others ≡ false → is_claimed i claims ≡ false) → LinesRise a.lines b.lines i ((book_in m).places i) → NoLater (free_time m a claims i) (free_time m b others i)
  free_stays chain claim lines = free_rises (book_in m) m.limits (core_of m a claims) (core_of m b others) i chain refl (order_same (core_in m).order i) claim lines

-- the places of a leaf that isn't among those of written places aren't written
slots_there : (m : MachineValue) → IsRun m.network → (i : ℕ) → i < length m.network.parts → (ws : List (PlaceId × ℕ)) → any_place m.network.parts i (map place_in ws) ≡ false → any_in (places_of (map pair_in ws)) (slots_of (net_in m) i) ≡ false
slots_there m run i l ws off =
    ap (λ (ps : List ℕ). any_in ps (slots_of (net_in m) i)) (places_are ws)
    ∙ (sym (place_there m.network (draw_of m.seed) (limits_in m.limits) run.known.network.numbered.leaves i (part_at m.network i) (part_there m.network.parts i l) (map place_in ws)) ∙ off)
  where
    places_are : (ws : List (PlaceId × ℕ)) → places_of (map pair_in ws) ≡ map (λ (x : PlaceId). x.0) (map place_in ws)
    places_are [] = refl
    places_are (w ∷ ws) = ap (λ (ps : List ℕ). w.0.0 ∷ ps) (places_are ws)

pub untouched_places : (m : MachineValue) → IsRun m.network → (i : ℕ) → i < length m.network.parts → (ws : List (PlaceId × ℕ)) → any_place m.network.parts i (map place_in ws) ≡ false → AreUnwritten (map pair_in ws) ((book_in m).places i)
untouched_places m run i l ws off = unwritten (map pair_in ws) (slots_of (net_in m) i) (part_of (net_in m) i) (λ q h. h) (slots_there m run i l ws off)

differs : (i j : ℕ) → nat_eq i j ≡ false → i ≢ j
differs i j e k = let t : nat_eq i j ≡ true = ap (λ (n : ℕ). nat_eq n j) k ∙ number_itself j in let f : true ≡ false = sym t ∙ e in absurd (cc)

-- a needed piece was taken
module _ (m : MachineValue) (follows : FollowsRun m) (run : IsRun m.network) (p : PieceValue) (needed : IsNeeded m p) (sound : IsSound p) (n : MachineValue) (is : n ≡ after_taking m p) (after : FollowsRun n) (stop : n.held.core.stop ≡ None) where
  abbrev of : Kind
  of = kind_in p.part.first.0 p.kind

  core_is : core_in n ≡ taken (net_in m) (core_in m) p.part.leaf.0 of p.time p.outcome
  core_is = ap core_in is ∙ core_then m follows run.known.network run.known.lawful run.known.laid p needed sound

  need_core : need_of (net_in m).horizon (core_in m).order ≡ Needs p.part.leaf.0 of p.time
  need_core = sym (ap (λ (x : law.Core). need_of (net_in m).horizon x.order) follows.held) ∙ needed.need

  early : (core_in m).order.time ≤ p.time
  early =
      let st = follow.stands m follows run.known.network run.known.lawful run.known.laid needed.going in
      (needed_suits (net_in m) (run.known.lawful (draw_of m.seed) (limits_in m.limits)) (networks_are_bounded m.network run.known.network (draw_of m.seed) (limits_in m.limits)) (length m.network.initial) (run.known.laid (draw_of m.seed) (limits_in m.limits)) (opening_state (net_in m)) (follow.past m follows run.known.network run.known.lawful run.known.laid) (core_in m) st.0 st.1 p.part.leaf.0 of p.time need_core).early

  stop_core : (taken (net_in m) (core_in m) p.part.leaf.0 of p.time p.outcome).stop ≡ None
  stop_core = sym (ap (λ (x : law.Core). x.stop) core_is) ∙ (sym (ap (λ (x : law.Core). x.stop) after.held) ∙ stop)

  module _ (i : ℕ) (d : i ≢ p.part.leaf.0) (untouched : touches (net_in m) p.outcome.writes i ≡ false) where
    order_here : OrderStays (core_in m).order (core_in n).order i
    order_here = subst (λ (x : law.Core). OrderStays (core_in m).order x.order i) (sym core_is) (order_stays (net_in m) (core_in m) p.part.leaf.0 i of p.time p.outcome need_core early d untouched of stop_core)

    state_here : leaf_of (core_in n) i ≡ leaf_of (core_in m) i
    state_here = ap (λ (x : law.Core). leaf_of x i) core_is ∙ others_stay (net_in m) (core_in m) p.part.leaf.0 i of p.time p.outcome d

    abbrev core_with : AheadValue → List (Option Pending) → law.Core → book.Core law.Core PieceValue
    core_with b claims h = record { held = h; chains = b.chains; counters = b.counters; lines = b.lines; claims = claims; journal = []; rollbacks = 0; taken = m.taken }

    pub free_taken : (a b : AheadValue) (claims : List (Option Pending)) → chain_of b.chains i ≡ chain_of a.chains i → LinesRise a.lines b.lines i ((book_in m).places i) → NoLater (free_time m a claims i) (free_time n b claims i)
    free_taken a b claims chain lines =
        subst (λ (x : MachineValue). NoLater (free_time m a claims i) (free_time x b claims i)) (sym is)
        (subst (λ (x : law.Core). NoLater (free_time m a claims i) (free_at (book_in m) m.limits (core_with b claims x) i)) (ap core_in is)
        (free_rises (book_in m) m.limits (core_of m a claims) (core_with b claims (core_in n)) i chain state_here order_here (λ h. h) lines))

  -- by a leaf, with what it wrote
  module _ (ws : List (PlaceId × ℕ)) (written : map pair_in ws ≡ p.outcome.writes) (a b : AheadValue) (chains : length a.chains ≡ length m.network.parts) (i : ℕ) (within : i < length a.chains)
      (other : nat_eq i p.part.leaf.0 ≡ false) (off : any_place m.network.parts i (map place_in ws) ≡ false) where
    inside : i < length m.network.parts
    inside = omega (arith, within, chains)

    pub not_written : AreUnwritten p.outcome.writes ((book_in m).places i)
    not_written = subst (λ (xs : List (ℕ × ℕ)). AreUnwritten xs ((book_in m).places i)) written (untouched_places m run i inside ws off)

    pub free_other : (claims : List (Option Pending)) → chain_of b.chains i ≡ chain_of a.chains i → LinesRise a.lines b.lines i ((book_in m).places i) → NoLater (free_time m a claims i) (free_time n b claims i)
    free_other claims chain lines =
        free_taken i (differs i p.part.leaf.0 other) (subst (λ (xs : List (ℕ × ℕ)). any_in (places_of xs) (slots_of (net_in m) i) ≡ false) written (slots_there m run i inside ws off)) a b claims chain lines

-- a piece that was made ahead is committed
module _ (m : MachineValue) (follows : FollowsRun m) (run : IsRun m.network) (p : PieceValue) (needed : IsNeeded m p) (sound : IsSound p) (n : MachineValue) (is : n ≡ after_taking m p) (after : FollowsRun n)
    (ws : List (PlaceId × ℕ)) (written : map pair_in ws ≡ p.outcome.writes) (a : AheadValue) (chains : length a.chains ≡ length m.network.parts) (j : ℕ) (own : p.part.leaf.0 ≡ j) (shared : List ℕ) where
  own_off : (i : ℕ) → nat_eq i j ≡ false → nat_eq i p.part.leaf.0 ≡ false
  own_off i e = ap (nat_eq i) own ∙ e

  module _ (pos : ℕ) (rest : Chain PieceValue) where
    abbrev mid : AheadValue
    mid = without_head a j (pos, p) rest

    abbrev done : AheadValue
    done = with_committed mid shared p.outcome.writes

    pub commit_low : (keys : List (Option ℕ)) → KeepsLow m a keys n done (touched_all m.network.parts ws (slice_set keys j (Some 0)))
    commit_low keys claims = keys_keep m n a done claims claims keys j m.network.parts ws (length-set a.chains j rest) (λ e. needed.going)
        (λ stop i within other off.
        let none = not_written m follows run p needed sound n is after stop ws written a done chains i within (own_off i other) off in
        free_other m follows run p needed sound n is after stop ws written a done chains i within (own_off i other) off claims (get_or-set_other a.chains j i rest [] (differs i j other))
        (rise_then a.lines mid.lines done.lines i ((book_in m).places i) (unwritten_rise (withdraw j pos) p.outcome.writes a.lines i ((book_in m).places i) none) (unwritten_rise (commit shared) p.outcome.writes mid.lines i ((book_in m).places i) none)))

  -- or made anew
  abbrev anew : AheadValue
  anew = raised (with_committed a shared p.outcome.writes) j

  pub anew_low : (keys : List (Option ℕ)) → KeepsLow m a keys n anew (touched_all m.network.parts ws (slice_set keys j (Some 0)))
  anew_low keys claims = keys_keep m n a anew claims claims keys j m.network.parts ws refl (λ e. needed.going)
      (λ stop i within other off.
      let none = not_written m follows run p needed sound n is after stop ws written a anew chains i within (own_off i other) off in
      free_other m follows run p needed sound n is after stop ws written a anew chains i within (own_off i other) off claims refl (unwritten_rise (commit shared) p.outcome.writes a.lines i ((book_in m).places i) none))

  -- and its leaf's chain falls
  module _ (fit : AreWrites (length a.lines) p.outcome.writes) (all : AllFit of_piece (length a.lines) (chain_of a.chains j)) (ordered : AreOrdered a.lines) where
    abbrev fell : AheadValue
    fell = cut_from anew j 0

    changed_ordered : (q : ℕ) (o : Option ℕ) (l : Line) → IsOrdered l.versions → IsOrdered (changed o (commit shared q) l).versions
    changed_ordered q None l h = h
    changed_ordered q (Some v) l h = h

    lines_ordered : AreOrdered anew.lines
    lines_ordered q = subst (λ (x : Line). IsOrdered x.versions) (sym (each_at (commit shared) p.outcome.writes a.lines q fit)) (changed_ordered q (write_of q p.outcome.writes) (line_of a.lines q) (ordered q))

    lines_fit : AllFit of_piece (length anew.lines) (chain_of a.chains j)
    lines_fit = subst (λ (k : ℕ). AllFit of_piece k (chain_of a.chains j)) (sym (length_each (commit shared) p.outcome.writes a.lines)) all

    pub fell_low : (keys : List (Option ℕ)) → KeepsLow m a keys n fell (touched_all m.network.parts ws (slice_set keys j (Some 0)))
    fell_low keys claims = keys_keep m n a fell claims claims keys j m.network.parts ws (length-set a.chains j []) (λ e. needed.going)
        (λ stop i within other off.
        let none = not_written m follows run p needed sound n is after stop ws written a fell chains i within (own_off i other) off in
        free_other m follows run p needed sound n is after stop ws written a fell chains i within (own_off i other) off claims (get_or-set_other a.chains j i [] [] (differs i j other))
        (rise_then a.lines anew.lines fell.lines i ((book_in m).places i) (unwritten_rise (commit shared) p.outcome.writes a.lines i ((book_in m).places i) none)
        (tail_rises of_piece j (chain_of a.chains j) anew.lines i ((book_in m).places i) lines_fit lines_ordered)))

-- calls that leave the machine
module _ (m : MachineValue) (run : IsRun m.network) (a : AheadValue) (keys : List (Option ℕ)) (chains : length a.chains ≡ length m.network.parts) where
  -- the end of a chain goes
  pub cut_low : (claims : List (Option Pending)) (j k : ℕ) → AllFit of_piece (length a.lines) (chain_of a.chains j) → AreOrdered a.lines → AreLow m a claims keys → AreLow m (cut_from a j k) claims (slice_set keys j (Some 0))
  cut_low claims j k fit ordered = keys_keep m m a (cut_from a j k) claims claims keys j m.network.parts [] (length-set a.chains j (take k (chain_of a.chains j))) (λ e. e)
      (λ stop i within other off.
      free_stays m a (cut_from a j k) claims claims i (get_or-set_other a.chains j i (take k (chain_of a.chains j)) [] (differs i j other)) (λ h. h)
      (tail_rises of_piece j (drop k (chain_of a.chains j)) a.lines i ((book_in m).places i) (fit_drop of_piece (length a.lines) k (chain_of a.chains j) fit) ordered))

  -- a claim goes
  pub late_low : (os : List (Option LeafId)) (w : ℕ) (leaf : LeafId) → claim_of (map claim_in os) w ≡ claim_in (Some leaf) → AreLow m a (map claim_in os) keys → AreLow m a (map claim_in (slice_set os w None)) (slice_set keys leaf.0 (Some 0))
  late_low os w leaf claim = keys_keep m m a a (map claim_in os) (map claim_in (slice_set os w None)) keys leaf.0 m.network.parts [] refl (λ e. e)
      (λ stop i within other off.
      free_stays m a a (map claim_in os) (map claim_in (slice_set os w None)) i refl
      (λ h. claimed_less (map claim_in os) w i (record { leaf = leaf.0; log = [] }) claim (number_turned i leaf.0 other) (ap (is_claimed i) (sym (map-set claim_in os w None)) ∙ h))
      (same_lines a.lines i ((book_in m).places i)))

  -- a claim comes
  pub claim_low : (os : List (Option LeafId)) (w : ℕ) (leaf : LeafId) → claim_of (map claim_in os) w ≡ None → AreLow m a (map claim_in os) keys → AreLow m a (map claim_in (slice_set os w (Some leaf))) keys
  claim_low os w leaf claim h = record {
    long = h.long;
    low = λ stop i within. no_later_then (key_of keys i) (free_time m a (map claim_in os) i) (free_time m a (map claim_in (slice_set os w (Some leaf))) i) (h.low stop i within)
        (free_stays m a a (map claim_in os) (map claim_in (slice_set os w (Some leaf))) i refl
        (λ e. claimed_more (map claim_in os) w i (record { leaf = leaf.0; log = [] }) claim (ap (is_claimed i) (sym (map-set claim_in os w (Some leaf))) ∙ e))
        (same_lines a.lines i ((book_in m).places i)));
  }

  -- a piece is pushed
  pub push_low : (os : List (Option LeafId)) (w : ℕ) (leaf : LeafId) (p : PieceValue) (ws : List (PlaceId × ℕ)) → map pair_in ws ≡ p.outcome.writes → claim_of (map claim_in os) w ≡ claim_in (Some leaf)
      → AreLow m a (map claim_in os) keys → AreLow m (pushed a leaf.0 p) (map claim_in (slice_set os w None)) (touched_all m.network.parts ws (slice_set keys leaf.0 (Some 0)))
  push_low os w leaf p ws written claim =
      let j = leaf.0 in
      let x : ℕ × PieceValue = (slice_index a.counters j, p) in
      keys_keep m m a (pushed a j p) (map claim_in os) (map claim_in (slice_set os w None)) keys j m.network.parts ws (length-set a.chains j (chain_of a.chains j ++ x ∷ [])) (λ e. e)
      (λ stop i within other off.
      free_stays m a (pushed a j p) (map claim_in os) (map claim_in (slice_set os w None)) i (get_or-set_other a.chains j i (chain_of a.chains j ++ x ∷ []) [] (differs i j other))
      (λ h. claimed_less (map claim_in os) w i (record { leaf = j; log = [] }) claim (number_turned i j other) (ap (is_claimed i) (sym (map-set claim_in os w None)) ∙ h))
      (unwritten_rise (put p.time j (slice_index a.counters j)) p.outcome.writes a.lines i ((book_in m).places i)
      (subst (λ (xs : List (ℕ × ℕ)). AreUnwritten xs ((book_in m).places i)) written (untouched_places m run i (omega (arith, within, chains)) ws off))))

  -- keys that are made unknown for nothing
  pub touch_low : (claims : List (Option Pending)) (j : ℕ) (ws : List (PlaceId × ℕ)) → AreLow m a claims keys → AreLow m a claims (touched_all m.network.parts ws (slice_set keys j (Some 0)))
  touch_low claims j ws = keys_keep m m a a claims claims keys j m.network.parts ws refl (λ e. e) (λ stop i within other off. no_later_self (free_time m a claims i))

-- nothing is known at first
zeros : (n i : ℕ) → i < n → key_of (replicate n (Some 0)) i ≡ Some 0
zeros zero i l = absurd (omega (arith, l))
zeros (suc n) zero l = refl
zeros (suc n) (suc i) l = zeros n i (omega (arith, l))

zeros_long : (n : ℕ) → length (replicate {A = Option ℕ} n (Some 0)) ≡ n
zeros_long zero = refl
zeros_long (suc n) = ap suc (zeros_long n)

pub unknown_low : (m : MachineValue) (a : AheadValue) (claims : List (Option Pending)) (n : ℕ) → length a.chains ≡ n → AreLow m a claims (replicate n (Some 0))
unknown_low m a claims n long = record {
  long = zeros_long n ∙ sym long;
  low = λ stop i l. subst (λ (k : Option ℕ). NoLater k (free_time m a claims i)) (sym (zeros n i (omega (arith, l, long)))) (zero_low (free_time m a claims i));
}

-- written places are the network's
below_all : (n k : ℕ) → n ≤ k → (ws : List (PlaceId × ℕ)) → AreWrites n (map pair_in ws) → All (λ (w : PlaceId × ℕ). w.0.0 < k) ws
below_all n k l [] h = of_none (λ (w : PlaceId × ℕ). w.0.0 < k)
below_all n k l (w ∷ ws) h = with_first (λ (x : PlaceId × ℕ). x.0.0 < k) w ws (let b = h.0 in omega (arith, b, l)) (below_all n k l ws h.2)

pub places_below : (m : MachineValue) → IsRun m.network → (x : Network) → x ≡ m.network → (n : ℕ) → n ≡ m.network.shared → (p : PieceValue) → AreWrites n p.outcome.writes → (ws : List (PlaceId × ℕ)) → map pair_in ws ≡ p.outcome.writes → All (λ (w : PlaceId × ℕ). w.0.0 < length x.initial) ws
places_below m run x same n is p fit ws written =
    let within : m.network.shared ≤ length m.network.initial = shared_within m.network (draw_of m.seed) (limits_in m.limits) run.shared (length m.network.initial) (run.known.laid (draw_of m.seed) (limits_in m.limits)) in
    subst (λ (y : Network). All (λ (w : PlaceId × ℕ). w.0.0 < length y.initial) ws) (sym same)
    (below_all n (length m.network.initial) (omega (arith, is, within)) ws (subst (λ (xs : List (ℕ × ℕ)). AreWrites n xs) (sym written) fit))

-- a machine with other room
pub spare_low : (m : MachineValue) (s : ℕ) (a : AheadValue) (claims : List (Option Pending)) (keys : List (Option ℕ)) → AreLow m a claims keys → AreLow (with_spare m s) a claims keys
spare_low m s a claims keys h = record { long = h.long; low = h.low }

-- one after another
pub low_then : (m n o : MachineValue) (a b d : AheadValue) (x y z : List (Option ℕ)) → KeepsLow m a x n b y → KeepsLow n b y o d z → KeepsLow m a x o d z
low_then m n o a b d x y z h k claims low = k claims (h claims low)
